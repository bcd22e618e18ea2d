-- Words that have to be of a class: a word that is not is refused as `word`.
use Rattle.std.specs.Prelude.{ℕ, List, Result}
use Rattle.pond_base.specs.declared.numbers.Party.{Party}
use Rattle.script_terms.specs.declared.cause.Cause.{Cause}
use Rattle.script_terms.specs.declared.cause.Cause.TheVariants as causes
use Rattle.script_grammar.specs.Results.{or_cause}
use Rattle.script_grammar.specs.Words.{number_of, label_of, party_of, name_of, data_of}

abbrev pub number_at : List ℕ → Result ℕ Cause
number_at word = or_cause causes.Word (number_of word)

abbrev pub label_at : List ℕ → Result (List ℕ) Cause
label_at word = or_cause causes.Word (label_of word)

abbrev pub party_at : List ℕ → Result Party Cause
party_at word = or_cause causes.Word (party_of word)

abbrev pub name_at : List ℕ → Result (List ℕ) Cause
name_at word = or_cause causes.Word (name_of word)

abbrev pub data_at : List ℕ → Result (List ℕ) Cause
data_at word = or_cause causes.Word (data_of word)
