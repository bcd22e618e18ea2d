use Rattle.std.proofs.Common.{◌≡◌, ◌∷◌, [], List, ℕ, Option, Some, None, IfErr, IfOk, IfSome, OnOk, Contains, map, flat_map, ap, sym, subst, ◌∙◌, ⊎_elim, refl}
use Rattle.block_names.specs.Growth.{Grew, IsClashIn, keep_all}
use Rattle.block_names.specs.Clashes.{AreHeld}
use Rattle.block_names.proofs.Clashed.{held_none}
use Rattle.ring_message.specs.declared.message.Message.{Message as Spelled}
use Rattle.ring_message.specs.Grammar.{IsMessage}
use Rattle.ring_message.specs.Spelling.{message_string}
use Rattle.ring_model.specs.Messages.{Ring, Party, Message, Letter, Member, Client, Foreign, to_members}
use Rattle.ring_model.specs.World.{IsParty}
use Rattle.message_model.specs.Meaning.{who, said, meaning, packet}
use Rattle.message_model.proofs.Meant.{messages_are_meant, others_are_foreign}
use Rattle.message_model.specs.Reading.{IsRingOf, asked_in}
use Rattle.ring_member.specs.Members.{StandsFor, sent_to_members}
use Rattle.ring_member.proofs.Quiets.{idle_stands, idle_told, news_idle}
use Rattle.ring_member.proofs.Sent.{all_sent}
use Rattle.ring_member.proofs.member.Member.take.Goals as goal

-- bytes that are read as no message are foreign
foreign : (bytes : List ℕ) (found : Option Spelled) → found ≡ None → ((m : Spelled) → IsMessage m → bytes ≡ message_string m → found ≡ Some m) → meaning bytes ≡ Foreign
foreign bytes found none spelled = ⊎_elim (λ one. absurd (let some = spelled one.message one.is one.spelled in cc (none, some))) (λ e. e) (others_are_foreign bytes)

-- bytes that are read as a message mean it
meant : (bytes : List ℕ) (found : Option Spelled) (m : Spelled) → found ≡ Some m → IfSome found (λ m. (bytes ≡ message_string m) × IsMessage m) → meaning bytes ≡ said m
meant bytes found m some read =
    let parts : (bytes ≡ message_string m) × IsMessage m = subst (λ (o : Option Spelled). IfSome o (λ m. (bytes ≡ message_string m) × IsMessage m)) some read in
    ap meaning parts.0 ∙ messages_are_meant m parts.1

-- foreign bytes ask for nothing
none_asked : (p : Party) (m : Message) → m ≡ Foreign → asked_in p m ≡ []
none_asked p m e = ap (asked_in p) e ∙ by p
  where
    by : (p : Party) → asked_in p Foreign ≡ []
    by (Member i) = refl
    by (Client c) = refl

pub returns-in-None-clause-stands : goal.returns-in-None-clause-stands
returns-in-None-clause-stands g c = λ g' i got ring party st.
    let nothing = foreign c.args.bytes.now c.in_ok-message.field-0 c.in-None.is c.in_ok-message.ensures.spelled in
    subst (λ (x : Message). StandsFor g' i c.args.self.now (record { from = who c.args.from; message = x } ∷ got)) (sym nothing)
    (idle_stands g' i c.args.self.now got (record { from = who c.args.from; message = Foreign }) st (news_idle g' (who c.args.from) Foreign party tt))

pub returns-in-None-clause-out : goal.returns-in-None-clause-out
returns-in-None-clause-out g c = λ g' i got ring party st.
    let nothing = foreign c.args.bytes.now c.in_ok-message.field-0 c.in-None.is c.in_ok-message.ensures.spelled in
    subst (λ (x : Message). map (packet i) c.new.result.items ≡ sent_to_members g' i got (record { from = who c.args.from; message = x } ∷ got)) (sym nothing)
    (ap (map (packet i)) c.new.ensures.items
    ∙ sym (ap (flat_map (to_members g' (Member i))) (idle_told g' i c.args.self.now got (record { from = who c.args.from; message = Foreign }) st (news_idle g' (who c.args.from) Foreign party tt)))
    ∙ all_sent g' i got (record { from = who c.args.from; message = Foreign } ∷ got))

pub returns-in-None-clause-held : goal.returns-in-None-clause-held
returns-in-None-clause-held g c =
    let nothing = foreign c.args.bytes.now c.in_ok-message.field-0 c.in-None.is c.in_ok-message.ensures.spelled in
    sym (ap (λ ss. keep_all g.H.Hash160.naming ss c.args.book.now.held) (none_asked (who c.args.from) (meaning c.args.bytes.now) nothing))

pub returns-in-None-clause-all : goal.returns-in-None-clause-all
returns-in-None-clause-all g c =
    let nothing = foreign c.args.bytes.now c.in_ok-message.field-0 c.in-None.is c.in_ok-message.ensures.spelled in
    subst (AreHeld g.H.Hash160.naming c.args.book.now.held) (sym (none_asked (who c.args.from) (meaning c.args.bytes.now) nothing)) (held_none g.H.Hash160.naming c.args.book.now.held)

pub returns-in-Some-clause-stands : goal.returns-in-Some-clause-stands
returns-in-Some-clause-stands g c =
    subst (λ (x : Message). OnOk c.answer.result ((g' : Ring) (i : ℕ) (got : List Letter) → IsRingOf g.H.Hash160.naming g' → IsParty g' (who c.args.from) → StandsFor g' i c.args.self.now got
    → StandsFor g' i c.answer.new.self (record { from = who c.args.from; message = x } ∷ got)))
    (sym (meant c.args.bytes.now c.in_ok-message.field-0 c.in-Some.message c.in-Some.is c.in_ok-message.ensures.read)) c.answer.ensures.stands

pub returns-in-Some-clause-out : goal.returns-in-Some-clause-out
returns-in-Some-clause-out g c =
    subst (λ (x : Message). IfOk c.answer.result (λ out. (g' : Ring) (i : ℕ) (got : List Letter) → IsRingOf g.H.Hash160.naming g' → IsParty g' (who c.args.from) → StandsFor g' i c.args.self.now got
    → map (packet i) out.items ≡ sent_to_members g' i got (record { from = who c.args.from; message = x } ∷ got)))
    (sym (meant c.args.bytes.now c.in_ok-message.field-0 c.in-Some.message c.in-Some.is c.in_ok-message.ensures.read)) c.answer.ensures.out

pub returns-in-Some-clause-held : goal.returns-in-Some-clause-held
returns-in-Some-clause-held g c =
    subst (λ (x : Message). OnOk c.answer.result (c.answer.new.book.held ≡ keep_all g.H.Hash160.naming (asked_in (who c.args.from) x) c.args.book.now.held))
    (sym (meant c.args.bytes.now c.in_ok-message.field-0 c.in-Some.message c.in-Some.is c.in_ok-message.ensures.read)) c.answer.ensures.held

pub returns-in-Some-clause-all : goal.returns-in-Some-clause-all
returns-in-Some-clause-all g c =
    subst (λ (x : Message). OnOk c.answer.result (AreHeld g.H.Hash160.naming c.answer.new.book.held (asked_in (who c.args.from) x)))
    (sym (meant c.args.bytes.now c.in_ok-message.field-0 c.in-Some.message c.in-Some.is c.in_ok-message.ensures.read)) c.answer.ensures.all

pub returns-in-Some-clause-grew : goal.returns-in-Some-clause-grew
returns-in-Some-clause-grew g c =
    subst (λ (x : Message). Grew g.H.Hash160.naming c.args.book.now.held (λ s. Contains (asked_in (who c.args.from) x) s) c.answer.new.book.held)
    (sym (meant c.args.bytes.now c.in_ok-message.field-0 c.in-Some.message c.in-Some.is c.in_ok-message.ensures.read)) c.answer.ensures.grew

pub returns-in-Some-clause-fault : goal.returns-in-Some-clause-fault
returns-in-Some-clause-fault g c =
    subst (λ (x : Message). IfErr c.answer.result (IsClashIn g.H.Hash160.naming c.answer.new.book.held (λ s. Contains (asked_in (who c.args.from) x) s)))
    (sym (meant c.args.bytes.now c.in_ok-message.field-0 c.in-Some.message c.in-Some.is c.in_ok-message.ensures.read)) c.answer.ensures.fault
