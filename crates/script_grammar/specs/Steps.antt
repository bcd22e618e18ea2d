-- The eight steps of a line, each of which gives the cause where it fails first.
use Rattle.std.specs.Prelude.{◌≡◌, ℕ, ◌+◌, Bool, true, List, [], ◌∷◌, length, nat_le, nat_lt, sum_by, ◌==◌, ◌&&◌, ◌||◌, not, if◌then◌else◌, Result, Ok, Err}
use Rattle.std.specs.List.{list_all}
use Rattle.guarded_update.specs.declared.update.Action.{Action}
use Rattle.guarded_update.specs.declared.update.Action.TheVariants.{Replace, Append, Truncate, Splice}
use Rattle.script_terms.specs.declared.cause.Cause.{Cause}
use Rattle.script_terms.specs.declared.cause.Cause.TheVariants as causes
use Rattle.script_terms.specs.declared.declaration.Declaration.{Declaration}
use Rattle.script_terms.specs.declared.declaration.Declaration.TheVariants as declared
use Rattle.script_terms.specs.declared.item.Item.{Item}
use Rattle.script_terms.specs.declared.item.Item.TheVariants.{Declared, Event}
use Rattle.script_terms.specs.declared.line.Line.{Line}
use Rattle.script_terms.specs.declared.line.Line.TheVariants.{Submit}
use Rattle.script_terms.specs.declared.line.LineClause.{LineClause}
use Rattle.script_terms.specs.declared.line.LineGuard.{LineGuard}
use Rattle.script_terms.specs.declared.line.LineGuard.TheVariants.{BlockIs}
use Rattle.script_terms.specs.declared.verb.Verb.{Verb}
use Rattle.script_terms.specs.declared.verb.Verb.TheVariants as verbs
use Rattle.script_grammar.specs.Results.{◌>>=◌, or_cause, where_holds}
use Rattle.script_grammar.specs.Words.{words_of, is_plain, is_comment}
use Rattle.script_grammar.specs.Forms.{verb_of, said}
use Rattle.script_grammar.specs.Known.{Known, known, rank}
use Rattle.script_grammar.specs.Asks.{is_member, is_client, is_faulty, has_home, all_met, asks}
use Rattle.script_grammar.specs.Load.{sent, is_borne}

-- the rank of the lines of a verb: declarations have 1 to 8, and events have 9
abbrev pub rank_of : Verb → ℕ
rank_of verbs.Pond = 1
rank_of verbs.Ring = 2
rank_of verbs.Faulty = 3
rank_of verbs.Block = 4
rank_of verbs.Clients = 6
rank_of verbs.Home = 8
rank_of verb = 9

-- a rank of which any number of lines may come
abbrev pub may_repeat : ℕ → Bool
may_repeat rank = rank == 3 || rank == 7 || rank == 8 || rank == 9

-- a line of a rank may follow one of the last rank: 1 and 2 stand first, and then ranks do not fall
abbrev pub in_order : ℕ → ℕ → Bool
in_order last rank = if nat_lt last 2 then rank == last + 1 else nat_lt last rank || (last == rank && may_repeat rank)

-- the numbers of a declaration are in range
abbrev pub declares_in_range : Known → Declaration → Bool
declares_in_range k declared.Pond = true
declares_in_range k (declared.Ring f) = nat_le f 3
declares_in_range k (declared.Faulty member) = is_member k member.0 && not (is_faulty k member.0)
declares_in_range k (declared.Block size) = nat_le 64 size && nat_le size 8192
declares_in_range k (declared.Clients count) = nat_le 1 count && nat_le count 16
declares_in_range k (declared.Home client member) = is_client k client.0 && is_member k member.0 && not (has_home k client.0)

-- the numbers of an event are in range
abbrev pub line_in_range : Known → Line → Bool
line_in_range k line = all_met k (asks line)

-- the numbers of a line are in range
abbrev pub in_range : Known → Item → Bool
in_range k (Declared declaration) = declares_in_range k declaration
in_range k (Event line) = line_in_range k line

-- how many bytes of content an action has
abbrev pub content_size : Action → ℕ
content_size (Replace offset content) = length content
content_size (Append content) = length content
content_size (Truncate kept) = 0
content_size (Splice offset remove content) = length content

-- a block guard has at most 8,192 bytes of content
abbrev pub is_small_guard : LineGuard → Bool
is_small_guard (BlockIs place content) = nat_le (length content) 8192
is_small_guard guard = true

-- at most 16 actions, 16 guards and 65,536 bytes of content in the actions, in all clauses together
abbrev pub update_in_size : List LineClause → Bool
update_in_size clauses =
    nat_le (sum_by (λ (c : LineClause). length c.actions) clauses) 16
    && nat_le (sum_by (λ (c : LineClause). length c.guards) clauses) 16
    && nat_le (sum_by (λ (c : LineClause). sum_by content_size c.actions) clauses) 65536
    && list_all (λ (c : LineClause). list_all is_small_guard c.guards) clauses

-- what a line says is within its own limits
abbrev pub in_size : Item → Bool
in_size (Event (Submit client label clauses)) = update_in_size clauses
in_size item = true

-- no count is passed: f faulty members, 1,024 submits, resubmits and forgeries, 16,384 events
abbrev pub has_room : Known → Bool
has_room k = nat_le (length k.faulty) k.ring && nat_le k.requests 1024 && nat_le k.events 16384

-- no counted limit is passed by some lines together
abbrev pub is_within : List Item → Bool
is_within lines = has_room (known lines) && is_borne (known lines).block (sent lines)

-- what the words of a line say behind earlier lines: steps 2 to 7
abbrev pub item_of : List Item → List ℕ → List (List ℕ) → Result Item Cause
item_of earlier word words = do
  verb ← or_cause causes.Verb (verb_of word)
  verb ← where_holds (in_order (known earlier).last (rank_of verb)) causes.Order verb
  item ← said verb words
  item ← where_holds (in_range (known earlier) item) causes.Range item
  where_holds (in_size item) causes.Size item

-- what a line says, where with it no counted limit is passed: step 8
abbrev pub counted : List Item → Item → Result Item Cause
counted earlier item = where_holds (is_within (item ∷ earlier)) causes.Full item

-- what words say behind earlier lines; nothing where the line is skipped
abbrev pub spoken : List Item → List (List ℕ) → Result (List Item) Cause
spoken earlier [] = Ok []
spoken earlier (word ∷ words) = if is_comment word then Ok [] else (item_of earlier word words >>= counted earlier >>= λ item. Ok (item ∷ []))

-- what a line says behind earlier lines: step 1, and then the others
abbrev pub line_of : List Item → List ℕ → Result (List Item) Cause
line_of earlier line = if list_all is_plain line then spoken earlier (words_of line) else Err causes.Byte

-- an item that passed the steps before the last
pub record Fits (earlier : List Item) (item : Item) : Type 0 where
  pub order : in_order (known earlier).last (rank item) ≡ true
  pub range : in_range (known earlier) item ≡ true
  pub size : in_size item ≡ true
