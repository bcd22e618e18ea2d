use Rattle.std.proofs.Common.{◌≡◌, ◌++◌, ◌∷◌, true, false, Option, Some, None, is_some, map, flat_map, refl, ap, ap₂, sym, subst, ◌∙◌}
use Rattle.std.specs.BTreeMap.{keys}
use Rattle.std.proofs.lemmas.List.{map-append}
use Rattle.message_model.specs.Meaning.{said}
use Rattle.ring_member.specs.Views.{view_of, Hears}
use Rattle.ring_member.specs.Standing.{request_of, Live}
use Rattle.ring_member.specs.Told.{prepare_heard, commit_heard}
use Rattle.ring_member.proofs.Executing.{ran_after, late_stands}
use Rattle.ring_member.proofs.Heard.{heard_again, request_told}
use Rattle.ring_member.proofs.Letters.{hear_live}
use Rattle.ring_member.proofs.Telling.{told_nothing}
use Rattle.ring_member.proofs.Whole.{whole_hear}
use Rattle.ring_member.proofs.progress.Progress.take_request.Goals as goal

not_some : {X : Type 0} (o : Option X) → is_some o ≡ false → o ≡ None
not_some None e = refl
not_some (Some x) e = absurd (cc e)

pub returns-then-contains_key-clause-stands : goal.returns-then-contains_key-clause-stands
returns-then-contains_key-clause-stands c = λ g got name party st.
    let p = c.args.self.now in
    let v = view_of p in
    let there : is_some (v.name c.args.request) ≡ true = sym c.contains_key.ensures ∙ c.if-contains_key.true in
    late_stands g p.f v (request_of g c.args.request) got st (hear_live g p.f v v got c.args.request c.args.name st.live (heard_again g p.f v got c.args.request c.args.name st.live there name) name party)

pub returns-then-contains_key-clause-told : goal.returns-then-contains_key-clause-told
returns-then-contains_key-clause-told c = λ g got name party st.
    let p = c.args.self.now in
    let v = view_of p in
    let there : is_some (v.name c.args.request) ≡ true = sym c.contains_key.ensures ∙ c.if-contains_key.true in
    ap (map said) c.new-told.ensures.items
    ∙ sym (told_nothing g p.f v got (request_of g c.args.request ∷ got) st (hear_live g p.f v v got c.args.request c.args.name st.live (heard_again g p.f v got c.args.request c.args.name st.live there name) name party))

pub advance-requires : goal.advance-requires
advance-requires c =
    whole_hear c.args.self.now c.hear.new.self c.in_ok-clone.field-0 c.args.name c.requires.whole c.in_ok-hear.ensures.hears c.in_ok-hear.ensures.faults

pub returns-clause-stands : goal.returns-clause-stands
returns-clause-stands c = λ g got name party st.
    let p = c.args.self.now in
    let q = c.hear.new.self in
    let l = request_of g c.args.request in
    let hears : Hears (view_of p) c.args.request c.args.name (view_of q) = subst (λ r. Hears (view_of p) r c.args.name (view_of q)) (c.in_ok-clone.ensures.cases) c.in_ok-hear.ensures.hears in
    let live = hear_live g p.f (view_of p) (view_of q) got c.args.request c.args.name st.live hears name party in
    c.in_ok-advance.ensures.stands g (l ∷ got) (subst (λ k. Live g k (view_of q) (l ∷ got)) (sym c.in_ok-hear.ensures.faults) live)
    (ran_after g p.f (view_of p) (view_of q) l got st c.in_ok-hear.ensures.hears.done_is)

pub returns-clause-told : goal.returns-clause-told
returns-clause-told c = λ g got name party st.
    let p = c.args.self.now in
    let q = c.hear.new.self in
    let r = c.args.request in
    let w = view_of q in
    let hears : Hears (view_of p) r c.args.name (view_of q) = subst (λ r. Hears (view_of p) r c.args.name (view_of q)) (c.in_ok-clone.ensures.cases) c.in_ok-hear.ensures.hears in
    let new = not_some ((view_of p).name r) (sym c.contains_key.ensures ∙ c.if-contains_key.false) in
    let seqs : c.deref.result.now ≡ keys p.slots = c.deref.ensures.value ∙ c.in_ok-seqs.ensures.seqs in
    ap (map said) c.in_ok-append.ensures.items ∙ map-append said c.endorse_all.new.prepares.items c.endorse_all.new.commits.items
    ∙ ap₂ (λ xs ys. xs ++ ys)
    (c.in_ok-endorse_all.ensures.prepares ∙ ap₂ (λ ms ks. map said ms ++ flat_map (prepare_heard w r c.args.name) ks) c.new-told.ensures.items seqs)
    (c.in_ok-endorse_all.ensures.commits ∙ ap₂ (λ ms ks. map said ms ++ flat_map (commit_heard q.f w r c.args.name) ks) c.new-commits.ensures.items seqs ∙ ap (λ k. flat_map (commit_heard k w r c.args.name) (keys p.slots)) c.in_ok-hear.ensures.faults)
    ∙ request_told g p.f (view_of p) w got r c.args.name p.slots.entries st new hears name party (λ s. refl) c.in_ok-seqs.ensures.rising
