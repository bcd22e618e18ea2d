use Rattle.std.proofs.Common.{◌≡◌, ◌<◌, ◌∙◌, [], Contains, List, ℕ, length, get_or, refl, ap, subst}
use Rattle.std.proofs.lemmas.List.{get_or_read_under}
use Rattle.std.proofs.lemmas.Result.{err_from_is_err_and}
use Rattle.block_names.specs.Clashes.{NoneClash, IsClashAmong}
use Rattle.block_names.specs.Growth.{IsClashIn}
use Rattle.block_names.proofs.Clashed.{named_apart, clash_among}
use Rattle.fragment_store.specs.Pairs.{Pairs, spoiled_strings, store_at}
use Rattle.fragment_store.proofs.stores.Stores.spoil.Goals as goal

-- the store that is read is the one of its number
read_at : (inside stores : List Pairs) (number : ℕ) (found : Pairs) → inside ≡ stores → found ≡ get_or inside number found → number < length stores → found ≡ store_at stores number
read_at inside stores number found view is below = get_or_read_under stores number (length stores) found [] (is ∙ ap (λ (s : List Pairs). get_or s number found) view) below refl

pub returns-in_err-spoiled-clause-fault : goal.returns-in_err-spoiled-clause-fault
returns-in_err-spoiled-clause-fault g c = let p = err_from_is_err_and c.from_residual.result c.from_residual.ensures.1 in
    let view : c.self.inside.stores.items ≡ c.args.self.now = c.self.view_is in
    let is : c.index.result.now ≡ store_at c.args.self.now c.args.store = read_at c.self.inside.stores.items c.args.self.now c.args.store c.index.result.now view c.index.ensures c.requires in
    rw (p.1, p.2) (subst (λ (pairs : Pairs). IsClashIn g.H.Hash160.naming c.spoiled.new.book.held (Contains (spoiled_strings pairs)) c.in_err-spoiled.field-0.0) is c.in_err-spoiled.ensures.fault)

pub returns-in_err-spoiled-clause-clash : goal.returns-in_err-spoiled-clause-clash
returns-in_err-spoiled-clause-clash g c = let p = err_from_is_err_and c.from_residual.result c.from_residual.ensures.1 in
    let view : c.self.inside.stores.items ≡ c.args.self.now = c.self.view_is in
    let is : c.index.result.now ≡ store_at c.args.self.now c.args.store = read_at c.self.inside.stores.items c.args.self.now c.args.store c.index.result.now view c.index.ensures c.requires in
    rw (p.1, p.2) (subst (λ (pairs : Pairs). IsClashAmong g.H.Hash160.naming c.args.book.now.held (Contains (spoiled_strings pairs)) c.in_err-spoiled.field-0.0) is
    (clash_among g.H.Hash160.naming c.args.book.now.held c.spoiled.new.book.held (Contains (spoiled_strings c.index.result.now)) c.in_err-spoiled.field-0.0 c.in_err-spoiled.ensures.grew c.in_err-spoiled.ensures.fault))

pub returns-clause-apart : goal.returns-clause-apart
returns-clause-apart g c =
    let view : c.self.inside.stores.items ≡ c.args.self.now = c.self.view_is in
    let is : c.index.result.now ≡ store_at c.args.self.now c.args.store = read_at c.self.inside.stores.items c.args.self.now c.args.store c.index.result.now view c.index.ensures c.requires in
    subst (λ (pairs : Pairs). NoneClash g.H.Hash160.naming c.args.book.now.held (Contains (spoiled_strings pairs))) is
    (named_apart g.H.Hash160.naming c.args.book.now.held c.spoiled.new.book.held (spoiled_strings c.index.result.now) c.in_ok-spoiled.ensures.grew c.in_ok-spoiled.ensures.all)
