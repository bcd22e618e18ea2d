-- What the words of a verb say behind earlier lines.
use Rattle.std.proofs.Common.{◌≡◌, List, ℕ, true, Some, sym, ◌∙◌, ap}
use Rattle.script_terms.specs.declared.cause.Cause.TheVariants as causes
use Rattle.script_terms.specs.declared.item.Item.{Item}
use Rattle.script_terms.specs.declared.verb.Verb.{Verb}
use Rattle.script_grammar.specs.Results.{◌>>=◌, or_cause, where_holds}
use Rattle.script_grammar.specs.Forms.{said, verb_of}
use Rattle.script_grammar.specs.Known.{Known, known}
use Rattle.script_grammar.specs.Steps.{rank_of, in_order, in_range, in_size, item_of}
use Rattle.script_checks.specs.Next.{checked}

-- what a verb's words say behind earlier lines, where its lines may stand there
pub says_by : (earlier : List Item) (word : List ℕ) (words : List (List ℕ)) (verb : Verb) (k : Known) → verb_of word ≡ Some verb → in_order (known earlier).last (rank_of verb) ≡ true → k ≡ known earlier
    → checked k (said verb words) ≡ item_of earlier word words
says_by earlier word words verb k e o same =
    let sized = λ (x : Item). where_holds (in_size x) causes.Size x in
    let ranged = λ (x : Item). where_holds (in_range (known earlier) x) causes.Range x >>= sized in
    let spoken = λ (v : Verb). said v words >>= ranged in
    let ordered = λ (v : Verb). where_holds (in_order (known earlier).last (rank_of v)) causes.Order v >>= spoken in
    ap (λ x. checked x (said verb words)) same ∙ ap (λ t. where_holds t causes.Order verb >>= spoken) (sym o) ∙ ap (λ v. or_cause causes.Verb v >>= ordered) (sym e)
