use Rattle.std.proofs.Common.{◌≡◌, ◌∷◌, map, ap, sym, subst, ◌∙◌, ⊎_elim}
use Rattle.ring_message.specs.declared.message.Message.TheVariants.{Reply, Heart, Sealed}
use Rattle.ring_message.specs.declared.message.Message.{Message}
use Rattle.message_model.specs.Meaning.{who, said}
use Rattle.ring_member.specs.Members.{StandsFor}
use Rattle.ring_member.proofs.Quiets.{IsNews, idle_stands, idle_told, news_idle}
use Rattle.ring_member.proofs.member.Member.take_message.Goals as goal

is_news : (m n : Message) → m ≡ n → IsNews (said n) → IsNews (said m)
is_news m n e h = subst (λ (x : Message). IsNews (said x)) (sym e) h

pub returns-in_ok-take_order-in-PrePrepare-clause-stands : goal.returns-in_ok-take_order-in-PrePrepare-clause-stands
returns-in_ok-take_order-in-PrePrepare-clause-stands g c = λ g' i got ring party st.
    subst (λ (m : Message). StandsFor g' i c.take_order.new.self (record { from = who c.args.from; message = said m } ∷ got)) (sym c.in-PrePrepare.is) (c.in_ok-take_order-in-PrePrepare.ensures.stands g' i got party st)

pub returns-in_ok-take_vote-in-Prepare-clause-stands : goal.returns-in_ok-take_vote-in-Prepare-clause-stands
returns-in_ok-take_vote-in-Prepare-clause-stands g c = λ g' i got ring party st.
    subst (λ (m : Message). StandsFor g' i c.take_vote.new.self (record { from = who c.args.from; message = said m } ∷ got)) (sym c.in-Prepare.is) (c.in_ok-take_vote-in-Prepare.ensures.stands g' i got party st)

pub returns-in_ok-take_vote-in-Commit-clause-stands : goal.returns-in_ok-take_vote-in-Commit-clause-stands
returns-in_ok-take_vote-in-Commit-clause-stands g c = λ g' i got ring party st.
    subst (λ (m : Message). StandsFor g' i c.take_vote-in-Commit.new.self (record { from = who c.args.from; message = said m } ∷ got)) (sym c.in-Commit.is) (c.in_ok-take_vote-in-Commit.ensures.stands g' i got party st)

pub returns-in-Reply-clause-stands : goal.returns-in-Reply-clause-stands
returns-in-Reply-clause-stands g c = λ g' i got ring party st.
    idle_stands g' i c.args.self.now got (record { from = who c.args.from; message = said c.args.message }) st
    (news_idle g' (who c.args.from) (said c.args.message) party (⊎_elim (λ h. is_news c.args.message (Reply h.0 h.1) h.2 tt) (λ k. ⊎_elim (λ h. is_news c.args.message (Heart h.0 h.1 h.2) h.3 tt) (λ h. is_news c.args.message (Sealed h.0 h.1 h.2) h.3 tt) k) c.in-Reply.is))

pub returns-in-Reply-clause-told : goal.returns-in-Reply-clause-told
returns-in-Reply-clause-told g c = λ g' i got ring party st.
    ap (map said) c.new.ensures.items
    ∙ sym (idle_told g' i c.args.self.now got (record { from = who c.args.from; message = said c.args.message }) st
    (news_idle g' (who c.args.from) (said c.args.message) party (⊎_elim (λ h. is_news c.args.message (Reply h.0 h.1) h.2 tt) (λ k. ⊎_elim (λ h. is_news c.args.message (Heart h.0 h.1 h.2) h.3 tt) (λ h. is_news c.args.message (Sealed h.0 h.1 h.2) h.3 tt) k) c.in-Reply.is)))
