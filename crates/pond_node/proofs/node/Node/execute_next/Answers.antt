use Rattle.std.proofs.Common.{◌-◌, ◌++◌, map, take, Contains, ap, subst, ◌∙◌}
use Rattle.std.specs.Option.{option_copied}
use Rattle.block_names.specs.Growth.{keep_all, Grew, IsClashIn}
use Rattle.block_names.specs.Clashes.{AreHeld}
use Rattle.ring_model.specs.Member.{answers, executed}
use Rattle.message_model.specs.Meaning.{packet}
use Rattle.pond_node.specs.Standing.{AreOf}
use Rattle.pond_node.proofs.Served.{has_request, is_asked, is_taken, is_named}
use Rattle.pond_node.proofs.node.Node.execute_next.Goals as goal

pub returns-in_default-clause-done : goal.returns-in_default-clause-done
returns-in_default-clause-done g c = λ g' i got low high st.
    absurd (has_request g.H.Hash160.naming c.args.self.now g' i got (take (c.args.seq.0 - 1) (executed g' got)) c.args.seq.0 (option_copied c.request.result) st low high c.request.ensures (ap option_copied c.in_default.is))

pub returns-in_default-clause-sent : goal.returns-in_default-clause-sent
returns-in_default-clause-sent g c = λ g' i got low high st ring.
    absurd (has_request g.H.Hash160.naming c.args.self.now g' i got (take (c.args.seq.0 - 1) (executed g' got)) c.args.seq.0 (option_copied c.request.result) st low high c.request.ensures (ap option_copied c.in_default.is))

pub returns-in_default-clause-held : goal.returns-in_default-clause-held
returns-in_default-clause-held g c = λ g' i got low high st.
    absurd (has_request g.H.Hash160.naming c.args.self.now g' i got (take (c.args.seq.0 - 1) (executed g' got)) c.args.seq.0 (option_copied c.request.result) st low high c.request.ensures (ap option_copied c.in_default.is))

pub returns-in_default-clause-all : goal.returns-in_default-clause-all
returns-in_default-clause-all g c = λ g' i got low high st.
    absurd (has_request g.H.Hash160.naming c.args.self.now g' i got (take (c.args.seq.0 - 1) (executed g' got)) c.args.seq.0 (option_copied c.request.result) st low high c.request.ensures (ap option_copied c.in_default.is))

pub returns-in-Ok-clause-done : goal.returns-in-Ok-clause-done
returns-in-Ok-clause-done g c = λ g' i got low high st.
    let h = g.H.Hash160.naming in
    let node = c.args.self.now in
    let slot = c.args.seq.0 in
    let string = c.in-Some.string.now in
    let some = ap option_copied c.in-Some.is in
    let asked = is_asked h node g' i got slot string (option_copied c.request.result) st c.request.ensures some in
    record {
      member_stands = st.member_stands;
      clients_are = st.clients_are;
      folds = st.folds;
      asked = st.asked;
      done_is = subst (λ xs. AreOf h node.block xs c.execute.new.objects c.execute.new.outcomes) (is_taken h node g' i got slot string (option_copied c.request.result) st c.request.ensures some)
          (c.in-Ok.ensures.done node.block (take (slot - 1) (executed g' got)) asked st.done_is);
    }

pub returns-in-Ok-clause-sent : goal.returns-in-Ok-clause-sent
returns-in-Ok-clause-sent g c = λ g' i got low high st ring.
    let h = g.H.Hash160.naming in
    let node = c.args.self.now in
    let slot = c.args.seq.0 in
    let string = c.in-Some.string.now in
    let some = ap option_copied c.in-Some.is in
    let asked = is_asked h node g' i got slot string (option_copied c.request.result) st c.request.ensures some in
    c.in-Ok.ensures.sent node.block (take (slot - 1) (executed g' got)) asked st.done_is g' i ring st.folds st.clients_are
    ∙ ap (λ xs. map (packet i) c.args.out.now.items ++ answers g' i xs) (is_taken h node g' i got slot string (option_copied c.request.result) st c.request.ensures some)

pub returns-in-Ok-clause-held : goal.returns-in-Ok-clause-held
returns-in-Ok-clause-held g c = λ g' i got low high st.
    let h = g.H.Hash160.naming in
    let node = c.args.self.now in
    let slot = c.args.seq.0 in
    let string = c.in-Some.string.now in
    let some = ap option_copied c.in-Some.is in
    let asked = is_asked h node g' i got slot string (option_copied c.request.result) st c.request.ensures some in
    c.in-Ok.ensures.held node.block (take (slot - 1) (executed g' got)) asked st.done_is
    ∙ ap (λ ss. keep_all h ss c.args.book.now.held) (is_named h node g' i got slot string (option_copied c.request.result) st c.request.ensures some)

pub returns-in-Ok-clause-all : goal.returns-in-Ok-clause-all
returns-in-Ok-clause-all g c = λ g' i got low high st.
    let h = g.H.Hash160.naming in
    let node = c.args.self.now in
    let slot = c.args.seq.0 in
    let string = c.in-Some.string.now in
    let some = ap option_copied c.in-Some.is in
    let asked = is_asked h node g' i got slot string (option_copied c.request.result) st c.request.ensures some in
    subst (AreHeld h c.execute.new.book.held) (is_named h node g' i got slot string (option_copied c.request.result) st c.request.ensures some)
    (c.in-Ok.ensures.all node.block (take (slot - 1) (executed g' got)) asked st.done_is)

pub returns-in-Ok-clause-grew : goal.returns-in-Ok-clause-grew
returns-in-Ok-clause-grew g c = λ g' i got low high st.
    let h = g.H.Hash160.naming in
    let node = c.args.self.now in
    let slot = c.args.seq.0 in
    let string = c.in-Some.string.now in
    let some = ap option_copied c.in-Some.is in
    let asked = is_asked h node g' i got slot string (option_copied c.request.result) st c.request.ensures some in
    subst (λ ss. Grew h c.args.book.now.held (Contains ss) c.execute.new.book.held) (is_named h node g' i got slot string (option_copied c.request.result) st c.request.ensures some)
    (c.execute.ensures.grew node.block (take (slot - 1) (executed g' got)) asked st.done_is)

pub returns-in-Err-clause-grew : goal.returns-in-Err-clause-grew
returns-in-Err-clause-grew g c = λ g' i got low high st.
    let h = g.H.Hash160.naming in
    let node = c.args.self.now in
    let slot = c.args.seq.0 in
    let string = c.in-Some.string.now in
    let some = ap option_copied c.in-Some.is in
    let asked = is_asked h node g' i got slot string (option_copied c.request.result) st c.request.ensures some in
    subst (λ ss. Grew h c.args.book.now.held (Contains ss) c.execute.new.book.held) (is_named h node g' i got slot string (option_copied c.request.result) st c.request.ensures some)
    (c.execute.ensures.grew node.block (take (slot - 1) (executed g' got)) asked st.done_is)

pub returns-in-Err-clause-fault : goal.returns-in-Err-clause-fault
returns-in-Err-clause-fault g c = λ g' i got low high st.
    let h = g.H.Hash160.naming in
    let node = c.args.self.now in
    let slot = c.args.seq.0 in
    let string = c.in-Some.string.now in
    let some = ap option_copied c.in-Some.is in
    let asked = is_asked h node g' i got slot string (option_copied c.request.result) st c.request.ensures some in
    subst (λ ss. IsClashIn h c.execute.new.book.held (Contains ss) c.in-Err.fault) (is_named h node g' i got slot string (option_copied c.request.result) st c.request.ensures some)
    (c.in-Err.ensures.fault node.block (take (slot - 1) (executed g' got)) asked st.done_is)
