-- One letter more.
use Rattle.std.proofs.Common.{◌≡◌, ℕ, zero, suc, ◌+◌, ◌≤◌, List, ◌∷◌, ◌++◌, length, Contains, Option, Some, None, sym, ap, ap₂, ◌∙◌, subst, arith}
use Rattle.std.specs.List.{flat_map}
use Rattle.std.proofs.lemmas.List.Elements.{Contains-append_left, Contains-append_right}
use Rattle.block_names.specs.Held.{Held}
use Rattle.block_names.specs.Growth.{keep_all, Grew, IsClashIn, Keeps}
use Rattle.block_names.specs.Clashes.{AreHeld}
use Rattle.block_names.specs.declared.fault.NameFault.{NameFault}
use Rattle.block_names.proofs.Grown.{grew_then, clash_wider, keep_append}
use Rattle.block_names.proofs.Clashed.{held_then}
use Rattle.ring_message.specs.declared.message.Out.{Out}
use Rattle.ring_model.specs.Messages.{Ring, Letter, Packet, Member, Client}
use Rattle.ring_model.specs.Messages as model
use Rattle.ring_model.specs.History.{go_on, run_of}
use Rattle.ring_model.specs.Member.{answers, causes, committed, executed}
use Rattle.ring_model.proofs.History.{Each-weaker}
use Rattle.ring_model.proofs.Stays.{executed_grows}
use Rattle.message_model.specs.Meaning.{who}
use Rattle.message_model.specs.Reading.{IsRingOf, asked_in}
use Rattle.ring_member.specs.Members.{sent_to_members}
use Rattle.message_model.specs.Members.{IsMember, AreToMembers}
use Rattle.ring_model.specs.Seats.{IsSeat}
use Rattle.message_model.specs.Naming.{strings_executed, strings_for}
use Rattle.pond_node.specs.declared.node.Node.{Node}
use Rattle.pond_node.specs.Answers.{AreSeated, longer}
use Rattle.pond_node.specs.Standing.{HasDone, HasAll}
use Rattle.pond_node.proofs.Steps.{same_naming}
use Rattle.pond_node.proofs.Newly.{newly_answers, prefix_short}
use Rattle.pond_node.proofs.Named.{grew_wider}

-- ---- seats

member_seated : (p : model.Party) → IsMember p → IsSeat p
member_seated (Member i) low = low
member_seated (Client c) none = absurd none

pub members_seated : (out : List Out) → AreToMembers out → AreSeated out
members_seated out all = Each-weaker (λ (o : Out). IsMember (who o.to)) (λ (o : Out). IsSeat (who o.to)) (λ o is. member_seated (who o.to) is) out all

-- ---- what the node has done

run_short : {Y : Type 0} (has : ℕ → Option Y) (n s : ℕ) → length (run_of has n s) ≤ n
run_short has zero s = omega arith
run_short {Y} has (suc n) s = by (has s) (run_short has n (s + 1))
  where
    by : (o : Option Y) → length (run_of has n (s + 1)) ≤ n → length (go_on o (run_of has n (s + 1))) ≤ suc n
    by None low = omega arith
    by (Some y) low = omega arith

-- what a node stands for, by the naming function of the book
pub by_book : (h : List ℕ → List ℕ) (node : Node) (g : Ring) (i : ℕ) (got : List Letter) → IsRingOf h g → HasAll node g i got → HasDone h (executed g got) node g i got
by_book h node g i got ring st = subst (λ n. HasDone n (executed g got) node g i got) (same_naming h g ring) st

pub by_ring : (h : List ℕ → List ℕ) (node : Node) (g : Ring) (i : ℕ) (got : List Letter) → IsRingOf h g → HasDone h (executed g got) node g i got → HasAll node g i got
by_ring h node g i got ring st = subst (λ n. HasDone n (executed g got) node g i got) (sym (same_naming h g ring)) st

-- ---- what is sent

pub all_caused : (g : Ring) (i : ℕ) (got : List Letter) (l : Letter) (sent out : List Packet) → sent ≡ sent_to_members g i got (l ∷ got)
    → out ≡ sent ++ flat_map (answers g i) (longer (length (executed g got)) (executed g (l ∷ got))) → out ≡ causes g i got (l ∷ got)
all_caused g i got l sent out is more =
    more ∙ ap₂ (λ xs ys. xs ++ ys) is
    (sym (newly_answers g i got (l ∷ got) (prefix_short (executed g got) (executed g (l ∷ got)) (executed_grows g l got)) (run_short (committed g (l ∷ got)) g.slots 1)))

-- ---- what is named

module _ (h : List ℕ → List ℕ) (g : Ring) (got : List Letter) (l : Letter) where
  abbrev asked : List (List ℕ)
  asked = asked_in l.from l.message

  abbrev done : List (List ℕ)
  done = strings_executed g got (l ∷ got)

  abbrev all : List (List ℕ)
  all = strings_for g got l

  pub all_held : (old between now : Held) → between ≡ keep_all h asked old → now ≡ keep_all h done between → now ≡ keep_all h all old
  all_held old between now first then = then ∙ ap (keep_all h done) first ∙ sym (keep_append h asked done old)

  pub all_known : (between now : Held) → Keeps between now → AreHeld h between asked → AreHeld h now done → AreHeld h now all
  all_known between now keeps first then = held_then h between now asked done keeps first then

  pub asked_grew : (old now : Held) → Grew h old (Contains asked) now → Grew h old (Contains all) now
  asked_grew old now grew = grew_wider h old now (Contains asked) (Contains all) (Contains-append_left asked done) grew

  pub all_grew : (old between now : Held) → Grew h old (Contains asked) between → Grew h between (Contains done) now → Grew h old (Contains all) now
  all_grew old between now first then = grew_then h old between now (Contains asked) (Contains done) (Contains all) (Contains-append_left asked done) (Contains-append_right asked done) first then

  pub asked_clash : (now : Held) (fault : NameFault) → IsClashIn h now (Contains asked) fault → IsClashIn h now (Contains all) fault
  asked_clash now fault clash = clash_wider h now (Contains asked) (Contains all) fault (Contains-append_left asked done) clash

  pub done_clash : (now : Held) (fault : NameFault) → IsClashIn h now (Contains done) fault → IsClashIn h now (Contains all) fault
  done_clash now fault clash = clash_wider h now (Contains done) (Contains all) fault (Contains-append_right asked done) clash
