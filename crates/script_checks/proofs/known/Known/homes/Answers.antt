use Rattle.std.proofs.Common.{◌≡◌, ◌+◌, ◌++◌, ◌∷◌, [], ℕ, List, map, arith, sym, ◌∙◌, ap}
use Rattle.std.specs.List.{range_with_len}
use Rattle.std.proofs.lemmas.List.FromFn.{map-range_with_len_more}
use Rattle.pond_base.specs.declared.numbers.ClientId.{ClientId}
use Rattle.pond_base.specs.declared.numbers.MemberId.{MemberId}
use Rattle.guarded_update.specs.declared.setup.Place.{Place}
use Rattle.guarded_update.specs.declared.setup.Place.TheVariants.{Member}
use Rattle.script_grammar.specs.Known.{Known}
use Rattle.script_grammar.specs.Script.{home_of}
use Rattle.script_checks.proofs.known.Known.homes.Goals as goal

-- the home of one client more
one_more : (declared : List (ClientId × MemberId)) (client : ℕ) (before after : List Place) (m : MemberId) → before ≡ map (λ n. Member (home_of declared n)) (range_with_len 0 client) → after ≡ before ++ Member m ∷ []
    → m ≡ home_of declared client → after ≡ map (λ n. Member (home_of declared n)) (range_with_len 0 (client + 1))
one_more declared client before after m b a h =
    a ∙ ap (λ x. x ++ Member m ∷ []) b ∙ ap (λ x. map (λ n. Member (home_of declared n)) (range_with_len 0 client) ++ Member x ∷ []) h
    ∙ sym (map-range_with_len_more {X = Place} (λ n. Member (home_of declared n)) 0 client client (omega arith))

pub loop-client-preserved : goal.loop-client-preserved
loop-client-preserved c =
    one_more c.args.self.now.homes c.loop-client.client c.loop-client.homes c.push.new.self c.home_of.result c.loop-client.invariant c.in_ok-push.ensures.ok
    (c.home_of.ensures ∙ ap (λ x. home_of x c.loop-client.client) (c.as_slice.ensures ∙ ap (λ (k : Known). k.homes) c.self.view_is))
