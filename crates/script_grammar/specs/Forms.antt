-- The verbs, and the table of the forms of each.
use Rattle.std.specs.Prelude.{ℕ, Bool, true, List, [], ◌∷◌, length, ◌==◌, ◌&&◌, if◌then◌else◌, codes, Option, Some, None, Result, Ok, Err}
use Rattle.std.specs.Str.{bytes_eq}
use Rattle.pond_base.specs.declared.numbers.Party.{Party}
use Rattle.script_terms.specs.declared.cause.Cause.{Cause}
use Rattle.script_terms.specs.declared.cause.Cause.TheVariants as causes
use Rattle.script_terms.specs.declared.declaration.Declaration.TheVariants as declared
use Rattle.script_terms.specs.declared.item.Item.{Item}
use Rattle.script_terms.specs.declared.item.Item.TheVariants.{Declared, Event}
use Rattle.script_terms.specs.declared.line.Line.TheVariants.{Submit, Resubmit, Deliver, Lose, Settle, Mute, Unmute, ForgeOrder, ForgePrepare, ForgeCommit, ForgeHeart, ForgeRaw, Cut, Mend, Read, ShowMember, ShowClient, ShowVersion, ShowRecent}
use Rattle.script_terms.specs.declared.line.Spot.TheVariants as spots
use Rattle.script_terms.specs.declared.verb.Verb.{Verb}
use Rattle.script_terms.specs.declared.verb.Verb.TheVariants as verbs
use Rattle.script_grammar.specs.Results.{◌>>=◌, or_cause}
use Rattle.script_grammar.specs.Classes.{number_at, label_at, party_at, name_at, data_at}
use Rattle.script_grammar.specs.Update.{groups_of, clauses_of}

-- the verb that a word is
abbrev pub verb_of : List ℕ → Option Verb
verb_of word =
    if bytes_eq word (codes "pond") then Some verbs.Pond
    else (if bytes_eq word (codes "ring") then Some verbs.Ring
    else (if bytes_eq word (codes "faulty") then Some verbs.Faulty
    else (if bytes_eq word (codes "block") then Some verbs.Block
    else (if bytes_eq word (codes "clients") then Some verbs.Clients
    else (if bytes_eq word (codes "home") then Some verbs.Home
    else (if bytes_eq word (codes "submit") then Some verbs.Submit
    else (if bytes_eq word (codes "resubmit") then Some verbs.Resubmit
    else (if bytes_eq word (codes "deliver") then Some verbs.Deliver
    else (if bytes_eq word (codes "lose") then Some verbs.Lose
    else (if bytes_eq word (codes "settle") then Some verbs.Settle
    else (if bytes_eq word (codes "mute") then Some verbs.Mute
    else (if bytes_eq word (codes "unmute") then Some verbs.Unmute
    else (if bytes_eq word (codes "forge") then Some verbs.Forge
    else (if bytes_eq word (codes "cut") then Some verbs.Cut
    else (if bytes_eq word (codes "mend") then Some verbs.Mend
    else (if bytes_eq word (codes "read") then Some verbs.Read
    else (if bytes_eq word (codes "show") then Some verbs.Show
    else None)))))))))))))))))

-- what stands at a place of a form: a fixed word, or any word of a class
pub data Slot : Type 0 where
  Fixed : List ℕ → Slot
  Number : Slot
  Label : Slot
  PartyWord : Slot
  Name : Slot
  Data : Slot

-- what makes an item of the words at some slots
abbrev pub Makes : List Slot → Type 0
Makes [] = Item
Makes (Fixed word ∷ slots) = Makes slots
Makes (Number ∷ slots) = ℕ → Makes slots
Makes (Label ∷ slots) = List ℕ → Makes slots
Makes (PartyWord ∷ slots) = Party → Makes slots
Makes (Name ∷ slots) = List ℕ → Makes slots
Makes (Data ∷ slots) = List ℕ → Makes slots

-- a form: its slots, and the item that words at them make
pub record Form : Type 0 where
  pub slots : List Slot
  pub make : Makes slots

-- the words of a forgery of a kind for a slot: a member, a party, the kind, a sequence number, and a client's request by its number
abbrev pub slot_words : List ℕ → List Slot
slot_words kind = Number ∷ PartyWord ∷ Fixed kind ∷ Number ∷ Number ∷ Number ∷ []

-- the forms of each verb, by the words behind it; `submit` has a grammar of its own
abbrev pub forms : Verb → List Form
forms verbs.Pond = record { slots = Fixed (codes "1") ∷ []; make = Declared declared.Pond } ∷ []
forms verbs.Ring = record { slots = Number ∷ []; make = λ f. Declared (declared.Ring f) } ∷ []
forms verbs.Faulty = record { slots = Number ∷ []; make = λ member. Declared (declared.Faulty (record { 0 = member })) } ∷ []
forms verbs.Block = record { slots = Number ∷ []; make = λ size. Declared (declared.Block size) } ∷ []
forms verbs.Clients = record { slots = Number ∷ []; make = λ count. Declared (declared.Clients count) } ∷ []
forms verbs.Home = record { slots = Number ∷ Fixed (codes "member") ∷ Number ∷ []; make = λ client member. Declared (declared.Home (record { 0 = client }) (record { 0 = member })) } ∷ []
forms verbs.Submit = []
forms verbs.Resubmit = record { slots = Number ∷ Number ∷ []; make = λ client number. Event (Resubmit (record { 0 = client }) number) } ∷ []
forms verbs.Deliver = record { slots = PartyWord ∷ PartyWord ∷ Number ∷ []; make = λ sender to place. Event (Deliver sender to place) } ∷ []
forms verbs.Lose = record { slots = PartyWord ∷ PartyWord ∷ Number ∷ []; make = λ sender to place. Event (Lose sender to place) } ∷ []
forms verbs.Settle = record { slots = []; make = Event Settle } ∷ []
forms verbs.Mute = record { slots = PartyWord ∷ []; make = λ party. Event (Mute party) } ∷ []
forms verbs.Unmute = record { slots = PartyWord ∷ []; make = λ party. Event (Unmute party) } ∷ []
forms verbs.Forge =
    record { slots = slot_words (codes "order"); make = λ member to seq client number. Event (ForgeOrder (record { 0 = member }) to (record { 0 = seq }) (record { 0 = client }) number) }
    ∷ record { slots = slot_words (codes "prepare"); make = λ member to seq client number. Event (ForgePrepare (record { 0 = member }) to (record { 0 = seq }) (record { 0 = client }) number) }
    ∷ record { slots = slot_words (codes "commit"); make = λ member to seq client number. Event (ForgeCommit (record { 0 = member }) to (record { 0 = seq }) (record { 0 = client }) number) }
    ∷ record { slots = Number ∷ PartyWord ∷ Fixed (codes "heart") ∷ Label ∷ Number ∷ Name ∷ []; make = λ member to label version name. Event (ForgeHeart (record { 0 = member }) to label (record { 0 = version }) name) }
    ∷ record { slots = Number ∷ PartyWord ∷ Fixed (codes "raw") ∷ Data ∷ []; make = λ member to content. Event (ForgeRaw (record { 0 = member }) to content) }
    ∷ []
forms verbs.Cut = record { slots = Fixed (codes "member") ∷ Number ∷ []; make = λ member. Event (Cut (spots.Member (record { 0 = member }))) } ∷ []
forms verbs.Mend = record { slots = Fixed (codes "member") ∷ Number ∷ []; make = λ member. Event (Mend (spots.Member (record { 0 = member }))) } ∷ []
forms verbs.Read = record { slots = Number ∷ Label ∷ []; make = λ client label. Event (Read (record { 0 = client }) label) } ∷ []
forms verbs.Show =
    record { slots = Fixed (codes "member") ∷ Number ∷ []; make = λ member. Event (ShowMember (record { 0 = member })) }
    ∷ record { slots = Fixed (codes "client") ∷ Number ∷ []; make = λ client. Event (ShowClient (record { 0 = client })) }
    ∷ record { slots = Fixed (codes "version") ∷ Number ∷ Label ∷ Number ∷ []; make = λ member label version. Event (ShowVersion (record { 0 = member }) label (record { 0 = version })) }
    ∷ record { slots = Fixed (codes "recent") ∷ []; make = Event ShowRecent }
    ∷ []

-- the fixed words stand at their places
abbrev pub has_fixed : List Slot → List (List ℕ) → Bool
has_fixed (Fixed fixed ∷ slots) (word ∷ words) = bytes_eq word fixed && has_fixed slots words
has_fixed (slot ∷ slots) (word ∷ words) = has_fixed slots words
has_fixed slots words = true

-- the item that words at some slots make, or the cause of the first word that is not of its class
abbrev pub made : (slots : List Slot) → Makes slots → List (List ℕ) → Result Item Cause
made [] item words = Ok item
made (Fixed fixed ∷ slots) make (word ∷ words) = made slots make words
made (Number ∷ slots) make (word ∷ words) = number_at word >>= λ number. made slots (make number) words
made (Label ∷ slots) make (word ∷ words) = label_at word >>= λ label. made slots (make label) words
made (PartyWord ∷ slots) make (word ∷ words) = party_at word >>= λ party. made slots (make party) words
made (Name ∷ slots) make (word ∷ words) = name_at word >>= λ name. made slots (make name) words
made (Data ∷ slots) make (word ∷ words) = data_at word >>= λ content. made slots (make content) words
made (slot ∷ slots) make [] = Err causes.Words

-- what words say by the first form that they fit in number and fixed words
abbrev pub said_by : List Form → List (List ℕ) → Result Item Cause
said_by [] words = Err causes.Words
said_by (form ∷ forms) words =
    if length words == length form.slots && has_fixed form.slots words then made form.slots form.make words else said_by forms words

-- what words behind `submit` say: a client, a label and an update
abbrev pub submit_of : List (List ℕ) → Result Item Cause
submit_of (client ∷ label ∷ words) = do
  groups ← or_cause causes.Words (groups_of words)
  c ← number_at client
  l ← label_at label
  u ← clauses_of groups
  Ok (Event (Submit (record { 0 = c }) l u))
submit_of words = Err causes.Words

-- what the words behind a verb say
abbrev pub said : Verb → List (List ℕ) → Result Item Cause
said verbs.Submit words = submit_of words
said verb words = said_by (forms verb) words
