-- The text of a script: what each line prints, from the list of all lines before it, up to the first clash of names.
use Rattle.std.specs.Prelude.{ℕ, List, [], ◌∷◌, ◌++◌, if◌then◌else◌, codes}
use Rattle.std.specs.Fmt.{decimal}
use Rattle.circular_buffer.specs.Buffer.{keep_last}
use Rattle.pond_base.specs.declared.numbers.MemberId.{MemberId}
use Rattle.ring_model.specs.Deliveries.{deliveries}
use Rattle.object_model.specs.Folds.{versions_after}
use Rattle.script_terms.specs.declared.line.Line.{Line}
use Rattle.script_terms.specs.declared.line.Line.TheVariants.{Read, ShowMember, ShowClient, ShowVersion, ShowRecent}
use Rattle.script_terms.specs.declared.script.Script.{Script}
use Rattle.text_model.specs.Blocks.{read_text, member_text, shape_text, up_to, up_to_heart, line_feed, faulty_text, recent_text, client_text}
use Rattle.text_model.specs.Believed.{believed_heart, believed_outcome}
use Rattle.text_model.specs.Labels.{script_labels}
use Rattle.text_model.specs.Events.{ring_for, events_of, is_declared_faulty}
use Rattle.text_model.specs.Executed.{committed_requests, member_requests}
use Rattle.text_model.specs.Clashes.{has_clash}
use Rattle.text_model.specs.Named.{named}
use Rattle.text_model.specs.Requests.{Numbered, count_of, submitted}

-- what is shown of a member after lines, where it is correct
abbrev pub of_member : Script → MemberId → List ℕ → List ℕ
of_member script member text = if is_declared_faulty script member.0 then faulty_text member else text

-- what an event prints after earlier lines
abbrev pub line_text : (List ℕ → List ℕ) → Script → List Numbered → Line → List ℕ
line_text h script earlier (Read client label) =
    read_text (up_to_heart (believed_heart h script earlier client label) (versions_after h script.setup.block label (committed_requests h script earlier)))
line_text h script earlier (ShowMember member) = of_member script member (member_text h script.setup.block member (member_requests h script earlier member))
line_text h script earlier (ShowClient client) =
    client_text client (count_of client (submitted h earlier)) (believed_outcome h script earlier client) (script_labels script) (believed_heart h script earlier client)
line_text h script earlier (ShowVersion member label version) =
    of_member script member (shape_text h script.setup.block (up_to version.0 (versions_after h script.setup.block label (member_requests h script earlier member))))
line_text h script earlier ShowRecent = recent_text (keep_last 8 (deliveries (ring_for h script) (events_of h script earlier)))
line_text h script earlier line = []

-- the line that ends a run at two strings with one name
abbrev pub clash_line : ℕ → List ℕ
clash_line line = codes "clash " ++ decimal line ++ line_feed

-- what lines print after earlier ones; a line up to which two named strings clash prints that, and nothing follows it
abbrev pub text_from : (List ℕ → List ℕ) → Script → List Numbered → List Numbered → List ℕ
text_from h script earlier [] = []
text_from h script earlier (line ∷ lines) =
    if has_clash h (named h script (line ∷ earlier)) then clash_line line.0
    else line_text h script earlier line.1 ++ text_from h script (line ∷ earlier) lines

-- what a script prints
abbrev pub text_of : (List ℕ → List ℕ) → Script → List ℕ
text_of h script = if has_clash h (named h script []) then clash_line 0 else text_from h script [] script.lines
