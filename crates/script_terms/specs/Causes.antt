-- The words by which the program tells why a line is refused.
use Rattle.std.specs.Prelude.{ℕ, List, codes}
use Rattle.script_terms.specs.declared.cause.Cause.{Cause}
use Rattle.script_terms.specs.declared.cause.Cause.TheVariants.{Byte, Verb, Order, Words, Word, Range, Size, Full}

abbrev pub word_of : Cause → List ℕ
word_of Byte = codes "byte"
word_of Verb = codes "verb"
word_of Order = codes "order"
word_of Words = codes "words"
word_of Word = codes "word"
word_of Range = codes "range"
word_of Size = codes "size"
word_of Full = codes "full"
