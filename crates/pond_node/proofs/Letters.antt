-- What was executed was asked for.
use Rattle.std.proofs.Common.{◌≡◌, ℕ, List, Some, sym, subst, ⊎_elim}
use Rattle.std.specs.List.{list_any, AllByRecursion as Each}
use Rattle.std.proofs.lemmas.Bool.{and_parts}
use Rattle.ring_message.specs.declared.message.Message.{Message as Spelled}
use Rattle.ring_message.specs.declared.message.Message.TheVariants as spelled
use Rattle.ring_message.specs.Grammar.{IsRequestString, MessageFits}
use Rattle.ring_model.specs.Messages.{Ring, Letter, Client, same_party}
use Rattle.ring_model.specs.Member.{is_request, asks, committed, executed}
use Rattle.ring_model.proofs.History.{run_holds, any_holds, passing_parts}
use Rattle.ring_model.proofs.Agreement.{is_request_true, committed_parts}
use Rattle.message_model.specs.Meaning.{said, meaning}
use Rattle.message_model.proofs.Meant.{others_are_foreign}
use Rattle.pond_node.specs.Standing.{IsAsked}

said_asked : (m : Spelled) → MessageFits m → IsAsked (said m)
said_asked (spelled.Request request) fits = fits
said_asked (spelled.PrePrepare seq request) fits = tt
said_asked (spelled.Prepare seq name) fits = tt
said_asked (spelled.Commit seq name) fits = tt
said_asked (spelled.Reply count outcome) fits = tt
said_asked (spelled.Heart object version name) fits = tt
said_asked (spelled.Sealed object version manifest) fits = tt

-- bytes that ask for something ask for a request of the grammar
pub bytes_asked : (bytes : List ℕ) → IsAsked (meaning bytes)
bytes_asked bytes = ⊎_elim (λ one. subst IsAsked (sym one.meant) (said_asked one.message one.is.fits)) (λ foreign. subst IsAsked (sym foreign) tt) (others_are_foreign bytes)

-- each executed request is one
pub executed_asked : (g : Ring) (got : List Letter) → Each (λ l. IsAsked l.message) got → Each IsRequestString (executed g got)
executed_asked g got all = run_holds (committed g got) IsRequestString each g.slots 1
  where
    each : (s : ℕ) (r : List ℕ) → committed g got s ≡ Some r → IsRequestString r
    each s r e =
        let asked = (passing_parts (λ t. list_any (asks g t) got) _ r (committed_parts g got s r e).1).1 in
        any_holds (asks g r) (λ l. IsAsked l.message) (IsRequestString r)
        (λ l is yes. subst IsAsked (is_request_true r l.message (and_parts (same_party l.from (Client (g.owner r))) (is_request r l.message) yes).1) is) got all asked
