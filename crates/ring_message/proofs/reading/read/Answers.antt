use Rattle.std.proofs.Common.{◌≡◌, ◌++◌, [], ◌∷◌, List, ℕ, Some, IfOk, ap, sym, ◌∙◌, arith, rules}
use Rattle.guarded_update.specs.Spelling.{number}
use Rattle.ring_message.specs.declared.message.Message.{Message}
use Rattle.ring_message.specs.declared.message.Message.TheVariants.{Request, PrePrepare, Prepare, Commit, Reply, Heart, Sealed}
use Rattle.ring_message.specs.Grammar.{IsRequestString, IsSlot, IsMessage}
use Rattle.ring_message.specs.Spelling.{message_string}
use Rattle.ring_message.proofs.reading.read.Goals as goal

abbrev first : List ℕ → ℕ
first [] = 0
first (x ∷ xs) = x

abbrev behind : List ℕ → List ℕ
behind [] = []
behind (x ∷ xs) = xs

-- bytes of the kind of an order spell no message of another kind
only_order : (P : Message → Type 0) (rest : List ℕ) → ((seq : ℕ) (request : List ℕ) → IsSlot seq → IsRequestString request → rest ≡ number seq ++ request → P (PrePrepare (record { 0 = seq }) request))
    → (m : Message) → IsMessage m → 18 ∷ rest ≡ message_string m → P m
only_order P rest spelled (PrePrepare seq request) is e = spelled seq.0 request is.fits.0 is.fits.1 (ap behind e)
only_order P rest spelled (Request request) is e = absurd (omega (arith, ap first e))
only_order P rest spelled (Prepare seq name) is e = absurd (omega (arith, ap first e))
only_order P rest spelled (Commit seq name) is e = absurd (omega (arith, ap first e))
only_order P rest spelled (Reply count outcome) is e = absurd (omega (arith, ap first e))
only_order P rest spelled (Heart object version name) is e = absurd (omega (arith, ap first e))
only_order P rest spelled (Sealed object version manifest) is e = absurd (omega (arith, ap first e))

pub returns-in-Ok-eq18-clause-spelled : goal.returns-in-Ok-eq18-clause-spelled
returns-in-Ok-eq18-clause-spelled c =
    let front : c.args.bytes.now ≡ 18 ∷ c.take_u8.new.self = search rules in
    λ message is e. only_order (λ m. IfOk c.read_order.result (λ found. found ≡ Some m)) c.take_u8.new.self c.read_order.ensures.spelled message is (sym front ∙ e)
