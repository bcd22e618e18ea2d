use Rattle.std.proofs.Common.{rules, ◌≡◌, length, ap, sym, ◌∙◌}
use Rattle.std.specs.List.{count_by}
use Rattle.quorum.specs.Tallies.{is_name}
use Rattle.quorum.proofs.Seats.{count_by-seats}
use Rattle.quorum.proofs.tally.Tally.count_of.Goals as goal

pub returns : goal.returns
returns c =
    let counted : c.count.result ≡ count_by (is_name c.args.name) c.args.self.now = search rules in
    let ten : length c.args.self.now ≡ 10 = let inside : length c.self.inside.votes ≡ 10 = search rules in ap length (sym c.self.view_is) ∙ inside in
    counted ∙ count_by-seats (is_name c.args.name) c.args.self.now ten
