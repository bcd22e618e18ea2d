use Rattle.std.proofs.Common.{Some}
use Rattle.std.proofs.lemmas.List.Elements.{All-contains}
use Rattle.board_model.specs.Rule.{IsSeen}
use Rattle.board_model.proofs.Kept.{one_list}
use Rattle.board_model.proofs.readers_see_one_list.Goals as goal

pub returns : goal.returns
returns c published one other all kept a b =
    one_list published one other (All-contains (IsSeen published) all (Some one) kept a) (All-contains (IsSeen published) all (Some other) kept b)
