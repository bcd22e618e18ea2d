use Rattle.std.proofs.Common.{◌≡◌, Some, None, ◌∙◌, sym, ap}
use Rattle.block_names.proofs.Map.{get_at, string_at}
use Rattle.block_names.proofs.book.Book.new.Goals as goal

pub invariant_of-result : goal.invariant_of-result
invariant_of-result g c = λ name string is.
    let none : None ≡ Some string = sym (get_at c.new.result.entries name ∙ ap (λ entries. string_at entries name) c.new.ensures.empty) ∙ is in cc
