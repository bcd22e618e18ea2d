-- A node executes one slot after the other.
use Rattle.std.proofs.Common.{◌≡◌, ℕ, ◌+◌, ◌-◌, ◌<◌, ◌≤◌, List, ◌++◌, length, map, take, flat_map, Contains, refl, sym, ap, ◌∙◌, subst, arith, append-nil, append_assoc}
use Rattle.std.proofs.lemmas.List.{take_all}
use Rattle.block_names.specs.Held.{Held}
use Rattle.block_names.specs.Growth.{keep_all, Grew, IsClashIn, Keeps}
use Rattle.block_names.specs.Clashes.{AreHeld}
use Rattle.block_names.specs.declared.fault.NameFault.{NameFault}
use Rattle.block_names.proofs.Grown.{grew_none, grew_then, clash_wider, keep_append}
use Rattle.block_names.proofs.Clashed.{held_none, held_then}
use Rattle.ring_message.specs.declared.message.Out.{Out}
use Rattle.object_fold.specs.Executed.{AreKnown}
use Rattle.ring_model.specs.Messages.{Ring, Letter}
use Rattle.ring_model.specs.Member.{answers, executed}
use Rattle.ring_model.specs.Laws.{IsPrefix}
use Rattle.message_model.specs.Meaning.{packet}
use Rattle.message_model.specs.Reading.{IsRingOf}
use Rattle.ring_member.specs.Members.{StandsFor}
use Rattle.pond_node.specs.declared.node.Node.{Node}
use Rattle.pond_node.specs.Answers.{AreSeated, longer}
use Rattle.pond_node.specs.Standing.{AddsOne, HasDone, IsKnown, ForLater, ForNext}
use Rattle.fold_model.proofs.Outcomes.{count_outcomes}
use Rattle.pond_node.proofs.Newly.{prefix_taken, prefix_short, between, none_between, flat_between, there_longer}

-- the strings of all slots that the node has yet to execute
abbrev pub later_named : Ring → List Letter → List (List ℕ) → List (List ℕ)
later_named g got done = flat_map g.namings (longer (length done) (executed g got))

-- after the slots up to a place: what the node has done, what it has sent, and what the book holds
pub record Running (h : List ℕ → List ℕ) (old : Node) (before : Held) (given : List Out) (place : ℕ) (node : Node) (held : Held) (out : List Out) : Type 0 where
  pub known : AreKnown h held node.objects
  pub few : length node.objects.made ≤ length node.outcomes
  pub low : length node.outcomes ≤ place
  pub seats : AreSeated given → AreSeated out
  pub is_done : ForLater h old (λ g i got done. HasDone h (take place (executed g got)) node g i got)
  pub sent : ForLater h old (λ g i got done. IsRingOf h g → map (packet i) out ≡ map (packet i) given ++ flat_map (answers g i) (between (length done) place (executed g got)))
  pub kept : ForLater h old (λ g i got done. held ≡ keep_all h (flat_map g.namings (between (length done) place (executed g got))) before)
  pub all : ForLater h old (λ g i got done. AreHeld h held (flat_map g.namings (between (length done) place (executed g got))))
  pub grew : ForLater h old (λ g i got done. Grew h before (Contains (later_named g got done)) held)
  pub keeps : Keeps before held
  pub still : node.archived ≡ old.archived

-- a node has one outcome for each request that it has done
pub counted : (h : List ℕ → List ℕ) (done : List (List ℕ)) (node : Node) (g : Ring) (i : ℕ) (got : List Letter) → HasDone h done node g i got → length node.outcomes ≡ length done
counted h done node g i got st = ap length st.done_is.outcomes_are ∙ count_outcomes h node.block done

pub running_starts : (h : List ℕ → List ℕ) (old : Node) (before : Held) (given : List Out) (first : ℕ) → first ≡ length old.outcomes → IsKnown h before old → Running h old before given first old before given
running_starts h old before given first at known = record {
  known = known.objects_known;
  few = known.few;
  low = omega (arith, at);
  seats = λ seats. seats;
  is_done = λ g i got done st prefix.
      let taken : take first (executed g got) ≡ done = ap (λ n. take n (executed g got)) (at ∙ counted h done old g i got st) ∙ prefix_taken done (executed g got) prefix in
      subst (λ xs. HasDone h xs old g i got) (sym taken) st;
  sent = λ g i got done st prefix ring.
      sym (append-nil (map (packet i) given))
      ∙ ap (λ xs. map (packet i) given ++ flat_map (answers g i) xs) (sym (none_between (length done) (executed g got)) ∙ ap (λ n. between (length done) n (executed g got)) (sym (at ∙ counted h done old g i got st)));
  kept = λ g i got done st prefix.
      ap (λ xs. keep_all h (flat_map g.namings xs) before) (sym (none_between (length done) (executed g got)) ∙ ap (λ n. between (length done) n (executed g got)) (sym (at ∙ counted h done old g i got st)));
  all = λ g i got done st prefix.
      subst (λ xs. AreHeld h before (flat_map g.namings xs)) (sym (none_between (length done) (executed g got)) ∙ ap (λ n. between (length done) n (executed g got)) (sym (at ∙ counted h done old g i got st)))
      (held_none h before);
  grew = λ g i got done st prefix. grew_none h before (Contains (later_named g got done));
  keeps = λ name string is. is;
  still = refl;
}

module _ (h : List ℕ → List ℕ) (old : Node) (before : Held) (given : List Out) (place : ℕ) (node : Node) (held : Held) (out : List Out) (runs : Running h old before given place node held out)
    (first last : ℕ) (at : first ≡ length old.outcomes) (ends : (g : Ring) (i : ℕ) (got : List Letter) → StandsFor g i old.member got → last ≡ length (executed g got)) (from : first ≤ place) where
  -- the slots that were done before are those up to the first
  done_low : (g : Ring) (i : ℕ) (got : List Letter) (done : List (List ℕ)) → HasDone h done old g i got → length done ≤ place
  done_low g i got done st = omega (arith, counted h done old g i got st, at, from)

  module _ (inside : place < last) (slot : ℕ) (is_slot : slot ≡ place + 1) where
    slot_high : (g : Ring) (i : ℕ) (got : List Letter) (done : List (List ℕ)) → HasDone h done old g i got → slot ≤ length (executed g got)
    slot_high g i got done st = omega (arith, ends g i got st.member_stands, inside, is_slot)

    -- what holds of a node that has done all slots before one holds here
    for_slot : (P : Ring → ℕ → List Letter → Type 0) → ForNext h slot node P → ForLater h old (λ g i got done. P g i got)
    for_slot P next = λ g i got done st prefix.
        next g i got (omega (arith, is_slot)) (slot_high g i got done st)
        (subst (λ n. HasDone h (take n (executed g got)) node g i got) (let less : place ≡ slot - 1 = omega (arith, is_slot) in less) (runs.is_done g i got done st prefix))

    slot_named : (g : Ring) (i : ℕ) (got : List Letter) (done : List (List ℕ)) → HasDone h done old g i got → (s : List ℕ) → Contains (g.namings (take slot (executed g got))) s → Contains (later_named g got done) s
    slot_named g i got done st s c = there_longer g.namings (length done) slot (executed g got) s (omega (arith, done_low g i got done st, is_slot)) (slot_high g i got done st) c

    pub slot_grew : (now : Held) → ForNext h slot node (λ g i got. Grew h held (Contains (g.namings (take slot (executed g got)))) now)
        → ForLater h old (λ g i got done. Grew h before (Contains (later_named g got done)) now)
    slot_grew now grew = λ g i got done st prefix.
        grew_then h before held now (Contains (later_named g got done)) (Contains (g.namings (take slot (executed g got)))) (Contains (later_named g got done)) (λ s c. c) (slot_named g i got done st)
        (runs.grew g i got done st prefix) (for_slot (λ g i got. Grew h held (Contains (g.namings (take slot (executed g got)))) now) grew g i got done st prefix)

    pub slot_clash : (now : Held) (fault : NameFault) → ForNext h slot node (λ g i got. IsClashIn h now (Contains (g.namings (take slot (executed g got)))) fault)
        → ForLater h old (λ g i got done. IsClashIn h now (Contains (later_named g got done)) fault)
    slot_clash now fault clash = λ g i got done st prefix.
        clash_wider h now (Contains (g.namings (take slot (executed g got)))) (Contains (later_named g got done)) fault (slot_named g i got done st)
        (for_slot (λ g i got. IsClashIn h now (Contains (g.namings (take slot (executed g got)))) fault) clash g i got done st prefix)

    pub running_on : (next : Node) (now : Held) (more : List Out)
        → ForNext h slot node (λ g i got. HasDone h (take slot (executed g got)) next g i got)
        → ForNext h slot node (λ g i got. IsRingOf h g → map (packet i) more ≡ map (packet i) out ++ answers g i (take slot (executed g got)))
        → (AreSeated out → AreSeated more) → AreKnown h now next.objects → AddsOne node.objects next.objects node.outcomes next.outcomes
        → ForNext h slot node (λ g i got. now ≡ keep_all h (g.namings (take slot (executed g got))) held)
        → ForNext h slot node (λ g i got. AreHeld h now (g.namings (take slot (executed g got))))
        → ForNext h slot node (λ g i got. Grew h held (Contains (g.namings (take slot (executed g got)))) now)
        → Keeps held now → next.archived ≡ node.archived → Running h old before given slot next now more
    running_on next now more is_done sent seats known one kept all_held grew keeps still = record {
      known = known;
      few = one.few runs.few;
      low = omega (arith, one.outcomes, runs.low, is_slot);
      seats = λ s. seats (runs.seats s);
      is_done = for_slot (λ g i got. HasDone h (take slot (executed g got)) next g i got) is_done;
      sent = λ g i got done st prefix ring.
          let all = executed g got in
          for_slot (λ g i got. IsRingOf h g → map (packet i) more ≡ map (packet i) out ++ answers g i (take slot (executed g got))) sent g i got done st prefix ring
          ∙ ap (λ xs. xs ++ answers g i (take slot all)) (runs.sent g i got done st prefix ring)
          ∙ append_assoc (map (packet i) given) (flat_map (answers g i) (between (length done) place all)) (answers g i (take slot all))
          ∙ ap (λ xs. map (packet i) given ++ xs)
          (ap (λ n. flat_map (answers g i) (between (length done) place all) ++ answers g i (take n all)) is_slot
          ∙ sym (flat_between (answers g i) (length done) place all (done_low g i got done st)) ∙ ap (λ n. flat_map (answers g i) (between (length done) n all)) (sym is_slot));
      kept = λ g i got done st prefix.
          let all = executed g got in
          for_slot (λ g i got. now ≡ keep_all h (g.namings (take slot (executed g got))) held) kept g i got done st prefix
          ∙ ap (keep_all h (g.namings (take slot all))) (runs.kept g i got done st prefix)
          ∙ sym (keep_append h (flat_map g.namings (between (length done) place all)) (g.namings (take slot all)) before)
          ∙ ap (λ ss. keep_all h ss before)
          (ap (λ n. flat_map g.namings (between (length done) place all) ++ g.namings (take n all)) is_slot
          ∙ sym (flat_between g.namings (length done) place all (done_low g i got done st)) ∙ ap (λ n. flat_map g.namings (between (length done) n all)) (sym is_slot));
      all = λ g i got done st prefix.
          let all = executed g got in
          subst (AreHeld h now)
          (ap (λ n. flat_map g.namings (between (length done) place all) ++ g.namings (take n all)) is_slot
          ∙ sym (flat_between g.namings (length done) place all (done_low g i got done st)) ∙ ap (λ n. flat_map g.namings (between (length done) n all)) (sym is_slot))
          (held_then h held now (flat_map g.namings (between (length done) place all)) (g.namings (take slot all)) keeps (runs.all g i got done st prefix)
          (for_slot (λ g i got. AreHeld h now (g.namings (take slot (executed g got)))) all_held g i got done st prefix));
      grew = slot_grew now grew;
      keeps = λ name string is. keeps name string (runs.keeps name string is);
      still = still ∙ runs.still;
    }

  -- ---- where no slot is left

  module _ (outside : last ≤ place) (upto : first ≤ last → place ≤ last) where
    ended : (g : Ring) (i : ℕ) (got : List Letter) (done : List (List ℕ)) → HasDone h done old g i got → IsPrefix done (executed g got) → place ≡ length (executed g got)
    ended g i got done st prefix =
        let end = ends g i got st.member_stands in
        let short = prefix_short done (executed g got) prefix in
        let count = counted h done old g i got st in
        let inside : place ≤ last = upto (omega arith) in omega arith

    pub all_done : ForLater h old (λ g i got done. HasDone h (executed g got) node g i got)
    all_done = λ g i got done st prefix.
        let all = executed g got in
        subst (λ xs. HasDone h xs node g i got) (ap (λ n. take n all) (ended g i got done st prefix) ∙ take_all (length all) all (omega arith)) (runs.is_done g i got done st prefix)

    pub all_sent : ForLater h old (λ g i got done. IsRingOf h g → map (packet i) out ≡ map (packet i) given ++ flat_map (answers g i) (longer (length done) (executed g got)))
    all_sent = λ g i got done st prefix ring.
        runs.sent g i got done st prefix ring ∙ ap (λ n. map (packet i) given ++ flat_map (answers g i) (between (length done) n (executed g got))) (ended g i got done st prefix)

    pub all_kept : ForLater h old (λ g i got done. held ≡ keep_all h (later_named g got done) before)
    all_kept = λ g i got done st prefix.
        runs.kept g i got done st prefix ∙ ap (λ n. keep_all h (flat_map g.namings (between (length done) n (executed g got))) before) (ended g i got done st prefix)

    pub all_known : ForLater h old (λ g i got done. AreHeld h held (later_named g got done))
    all_known = λ g i got done st prefix.
        subst (λ n. AreHeld h held (flat_map g.namings (between (length done) n (executed g got)))) (ended g i got done st prefix) (runs.all g i got done st prefix)
