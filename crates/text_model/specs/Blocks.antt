-- What events print: one block a form. Versions are a list of byte strings with the newest first, which ends with the empty
-- one, and requests have the newest first too.
use Rattle.std.specs.Prelude.{ℕ, zero, suc, ◌+◌, ◌-◌, List, [], ◌∷◌, ◌++◌, length, drop, nat_lt, if◌then◌else◌, codes, Option, Some, None}
use Rattle.std.specs.Fmt.{decimal}
use Rattle.std.specs.List.{flat_map}
use Rattle.hex.specs.Hex.{encode_lower}
use Rattle.ring_model.specs.Messages.{Party, Member, Client, Mark}
use Rattle.ring_model.specs.Places.{Place}
use Rattle.pond_base.specs.declared.numbers.ClientId.{ClientId}
use Rattle.pond_base.specs.declared.numbers.MemberId.{MemberId}
use Rattle.guarded_update.specs.declared.request.Request.{Request}
use Rattle.object_model.specs.Folds.{Effect, Makes, Refuses, Repeats, effect, made_by, versions_after}
use Rattle.object_model.specs.Trees.{height_of, version_strings, new_strings}
use Rattle.object_model.specs.Updates.{Refusal, NoClause, OutOfRange, TooLong}
use Rattle.ring_message.specs.declared.outcome.Outcome.{Outcome}
use Rattle.ring_message.specs.declared.outcome.Outcome.TheVariants as told
use Rattle.message_model.specs.Meaning.{outcome_at}

-- texts one behind the other, and a line feed behind them
abbrev pub line_feed : List ℕ
line_feed = 10 ∷ []

-- bytes as lower-case digits, and none as a dash
abbrev pub printed_bytes : List ℕ → List ℕ
printed_bytes [] = codes "-"
printed_bytes (byte ∷ bytes) = encode_lower (byte ∷ bytes)

-- the line of a version: its number, its length and its bytes
abbrev pub version_line : ℕ → List ℕ → List ℕ
version_line version bytes =
    codes "version " ++ decimal version ++ codes " length " ++ decimal (length bytes) ++ codes " " ++ printed_bytes bytes ++ line_feed

-- what a read prints of versions up to that of the client's heart: that one, or that there is none
abbrev pub read_text : List (List ℕ) → List ℕ
read_text [] = codes "no heart" ++ line_feed
read_text (content ∷ older) = version_line (length older) content

-- the words of outcomes: a version that was made, a refusal, and a repeat
abbrev pub made_text : ℕ → List ℕ
made_text version = codes "made " ++ decimal version

abbrev pub repeat_text : List ℕ
repeat_text = codes "repeat"

abbrev pub refusal_text : Refusal → List ℕ
refusal_text NoClause = codes "no clause"
refusal_text OutOfRange = codes "out of range"
refusal_text TooLong = codes "too long"

-- the outcome of a request on an object with so many versions, the empty one among them
abbrev pub outcome_text : ℕ → Effect → List ℕ
outcome_text count (Makes content) = made_text count
outcome_text count (Refuses refusal) = refusal_text refusal
outcome_text count Repeats = repeat_text

-- the line of a slot: its number, the client and number of its request, and the outcome
abbrev pub slot_line : ℕ → Request → List ℕ → List ℕ
slot_line slot request outcome =
    decimal slot ++ codes " c" ++ decimal request.client.0 ++ codes " " ++ decimal request.number ++ codes " " ++ outcome ++ line_feed

-- the line of an executed request
abbrev pub executed_line : (List ℕ → List ℕ) → ℕ → Request → List Request → List ℕ
executed_line h block request earlier =
    slot_line (length earlier + 1) request (outcome_text (length (versions_after h block request.label earlier)) (effect h block request earlier (made_by h block earlier)))

-- the lines of executed requests, the first one first
abbrev pub executed_lines : (List ℕ → List ℕ) → ℕ → List Request → List ℕ
executed_lines h block [] = []
executed_lines h block (request ∷ earlier) = executed_lines h block earlier ++ executed_line h block request earlier

-- what a member executed
abbrev pub member_text : (List ℕ → List ℕ) → ℕ → MemberId → List Request → List ℕ
member_text h block member executed =
    codes "member " ++ decimal member.0 ++ codes " executed " ++ decimal (length executed) ++ line_feed ++ executed_lines h block executed

-- the line of a version over older ones: its length, its height, how many strings it has, and how many of them are new
abbrev pub shape_line : (List ℕ → List ℕ) → ℕ → List ℕ → List (List ℕ) → List ℕ
shape_line h block content older =
    codes "version " ++ decimal (length older) ++ codes " length " ++ decimal (length content) ++ codes " height " ++ decimal (height_of block content)
    ++ codes " strings " ++ decimal (length (version_strings h block content older)) ++ codes " new " ++ decimal (length (new_strings h block content older)) ++ line_feed

abbrev pub shape_text : (List ℕ → List ℕ) → ℕ → List (List ℕ) → List ℕ
shape_text h block [] = codes "no version" ++ line_feed
shape_text h block (content ∷ older) = shape_line h block content older

-- versions up to that of a number, which is then the newest, and none where there is none of that number
abbrev pub up_to : ℕ → List (List ℕ) → List (List ℕ)
up_to version versions = if nat_lt version (length versions) then drop (length versions - 1 - version) versions else []

-- versions up to that of a heart, and none where there is no heart
abbrev pub up_to_heart : Option Mark → List (List ℕ) → List (List ℕ)
up_to_heart None versions = []
up_to_heart (Some heart) versions = up_to heart.version versions

-- what is shown of a faulty member
abbrev pub faulty_text : MemberId → List ℕ
faulty_text member = codes "member " ++ decimal member.0 ++ codes " faulty" ++ line_feed

-- a party in a delivery's line
abbrev pub party_text : Party → List ℕ
party_text (Member number) = codes "m" ++ decimal number
party_text (Client number) = codes "c" ++ decimal number

-- the line of a delivery, whose place is counted from 1
abbrev pub delivery_line : Place → List ℕ
delivery_line place = party_text place.from ++ codes " " ++ party_text place.to ++ codes " " ++ decimal (place.place + 1) ++ line_feed

-- the last deliveries, the oldest first
abbrev pub recent_text : List Place → List ℕ
recent_text places = codes "recent " ++ decimal (length places) ++ line_feed ++ flat_map delivery_line places

-- an outcome that a client was told
abbrev pub told_text : Outcome → List ℕ
told_text (told.Made version name) = made_text version.0
told_text told.NoClause = refusal_text NoClause
told_text told.OutOfRange = refusal_text OutOfRange
told_text told.TooLong = refusal_text TooLong
told_text told.Repeat = repeat_text

-- what a client believes of a request: its outcome, which is spelled, or nothing yet
abbrev pub belief_text : Option (List ℕ) → List ℕ
belief_text None = codes "pending"
belief_text (Some outcome) = told_text (outcome_at outcome)

-- the lines of a client's first requests
abbrev pub request_lines : (ℕ → Option (List ℕ)) → ℕ → List ℕ
request_lines believed zero = []
request_lines believed (suc earlier) = request_lines believed earlier ++ decimal (suc earlier) ++ codes " " ++ belief_text (believed (suc earlier)) ++ line_feed

-- the line of a label with a heart
abbrev pub heart_line : List ℕ → Option Mark → List ℕ
heart_line label None = []
heart_line label (Some heart) = codes "heart " ++ label ++ codes " " ++ decimal heart.version ++ line_feed

-- what is shown of a client: its requests with the outcomes that it believes, and the labels with its hearts
abbrev pub client_text : ClientId → ℕ → (ℕ → Option (List ℕ)) → List (List ℕ) → (List ℕ → Option Mark) → List ℕ
client_text client count believed labels heart =
    codes "client " ++ decimal client.0 ++ codes " requests " ++ decimal count ++ line_feed ++ request_lines believed count ++ flat_map (λ label. heart_line label (heart label)) labels
