use Rattle.std.proofs.Common.{◌∷◌, map, sym, ◌∙◌}
use Rattle.object_fold.proofs.Kept.{known_still}
use Rattle.ring_model.specs.Member.{executed}
use Rattle.ring_model.proofs.Stays.{executed_grows}
use Rattle.message_model.specs.Meaning.{letter, packet}
use Rattle.pond_node.proofs.Letters.{bytes_asked}
use Rattle.pond_node.proofs.Caused.{by_book, by_ring, members_seated, all_caused, all_held, all_known, asked_grew, all_grew, asked_clash, done_clash}
use Rattle.pond_node.proofs.taking.NodeNode.take.Goals as goal

pub returns-in-Err-clause-grew : goal.returns-in-Err-clause-grew
returns-in-Err-clause-grew g c = λ g' i got archived ring party st. asked_grew g.H.Hash160.naming g' got (letter c.args.from c.args.bytes.now) c.args.book.now.held c.take.new.book.held c.take.ensures.grew

pub returns-in-Err-clause-fault : goal.returns-in-Err-clause-fault
returns-in-Err-clause-fault g c = λ g' i got archived ring party st. asked_clash g.H.Hash160.naming g' got (letter c.args.from c.args.bytes.now) c.take.new.book.held c.in-Err.fault c.in-Err.ensures.fault

pub execute_new-requires : goal.execute_new-requires
execute_new-requires g c = record {
  known = record {
    objects_known = known_still g.H.Hash160.naming c.args.book.now.held c.take.new.book.held c.args.self.now.objects c.take.ensures.grew.kept c.requires.known.objects_known;
    few = c.requires.known.few;
  };
}

pub returns-in-Ok-execute_new-clause-stands : goal.returns-in-Ok-execute_new-clause-stands
returns-in-Ok-execute_new-clause-stands g c = λ g' i got archived ring party st.
    let h = g.H.Hash160.naming in
    let l = letter c.args.from c.args.bytes.now in
    let at = by_book h c.args.self.now g' i got ring st.done in
    record {
      done = by_ring h c.execute_new.new.self g' i (l ∷ got) ring
          (c.in-Ok-execute_new.ensures.done g' i (l ∷ got) (executed g' got)
          (record { member_stands = c.in-Ok.ensures.stands g' i got ring party st.done.member_stands; clients_are = at.clients_are; folds = at.folds; asked = (bytes_asked c.args.bytes.now, st.done.asked); done_is = at.done_is })
          (executed_grows g' l got));
      archived_are = st.archived_are ∙ sym c.execute_new.ensures.archived;
    }

pub returns-in-Ok-execute_new-clause-out : goal.returns-in-Ok-execute_new-clause-out
returns-in-Ok-execute_new-clause-out g c = λ g' i got archived ring party st.
    let h = g.H.Hash160.naming in
    let l = letter c.args.from c.args.bytes.now in
    let at = by_book h c.args.self.now g' i got ring st.done in
    all_caused g' i got l (map (packet i) c.in-Ok.out.items) (map (packet i) c.execute_new.new.out.items) (c.in-Ok.ensures.out g' i got ring party st.done.member_stands)
    (c.in-Ok-execute_new.ensures.sent g' i (l ∷ got) (executed g' got)
    (record { member_stands = c.in-Ok.ensures.stands g' i got ring party st.done.member_stands; clients_are = at.clients_are; folds = at.folds; asked = (bytes_asked c.args.bytes.now, st.done.asked); done_is = at.done_is })
    (executed_grows g' l got) ring)

pub returns-in-Ok-execute_new-clause-seats : goal.returns-in-Ok-execute_new-clause-seats
returns-in-Ok-execute_new-clause-seats g c = c.in-Ok-execute_new.ensures.seats (members_seated c.in-Ok.out.items c.in-Ok.ensures.seats)

pub returns-in-Ok-execute_new-clause-held : goal.returns-in-Ok-execute_new-clause-held
returns-in-Ok-execute_new-clause-held g c = λ g' i got archived ring party st.
    let h = g.H.Hash160.naming in
    let l = letter c.args.from c.args.bytes.now in
    let at = by_book h c.args.self.now g' i got ring st.done in
    all_held h g' got l c.args.book.now.held c.take.new.book.held c.execute_new.new.book.held c.in-Ok.ensures.held
    (c.in-Ok-execute_new.ensures.held g' i (l ∷ got) (executed g' got)
    (record { member_stands = c.in-Ok.ensures.stands g' i got ring party st.done.member_stands; clients_are = at.clients_are; folds = at.folds; asked = (bytes_asked c.args.bytes.now, st.done.asked); done_is = at.done_is })
    (executed_grows g' l got))

pub returns-in-Ok-execute_new-clause-all : goal.returns-in-Ok-execute_new-clause-all
returns-in-Ok-execute_new-clause-all g c = λ g' i got archived ring party st.
    let h = g.H.Hash160.naming in
    let l = letter c.args.from c.args.bytes.now in
    let at = by_book h c.args.self.now g' i got ring st.done in
    all_known h g' got l c.take.new.book.held c.execute_new.new.book.held c.execute_new.ensures.keeps c.in-Ok.ensures.all
    (c.in-Ok-execute_new.ensures.all g' i (l ∷ got) (executed g' got)
    (record { member_stands = c.in-Ok.ensures.stands g' i got ring party st.done.member_stands; clients_are = at.clients_are; folds = at.folds; asked = (bytes_asked c.args.bytes.now, st.done.asked); done_is = at.done_is })
    (executed_grows g' l got))

pub returns-in-Ok-execute_new-clause-grew : goal.returns-in-Ok-execute_new-clause-grew
returns-in-Ok-execute_new-clause-grew g c = λ g' i got archived ring party st.
    let h = g.H.Hash160.naming in
    let l = letter c.args.from c.args.bytes.now in
    let at = by_book h c.args.self.now g' i got ring st.done in
    all_grew h g' got l c.args.book.now.held c.take.new.book.held c.execute_new.new.book.held c.take.ensures.grew
    (c.execute_new.ensures.grew g' i (l ∷ got) (executed g' got)
    (record { member_stands = c.in-Ok.ensures.stands g' i got ring party st.done.member_stands; clients_are = at.clients_are; folds = at.folds; asked = (bytes_asked c.args.bytes.now, st.done.asked); done_is = at.done_is })
    (executed_grows g' l got))

pub returns-in-Err-execute_new-clause-grew : goal.returns-in-Err-execute_new-clause-grew
returns-in-Err-execute_new-clause-grew g c = λ g' i got archived ring party st.
    let h = g.H.Hash160.naming in
    let l = letter c.args.from c.args.bytes.now in
    let at = by_book h c.args.self.now g' i got ring st.done in
    all_grew h g' got l c.args.book.now.held c.take.new.book.held c.execute_new.new.book.held c.take.ensures.grew
    (c.execute_new.ensures.grew g' i (l ∷ got) (executed g' got)
    (record { member_stands = c.in-Ok.ensures.stands g' i got ring party st.done.member_stands; clients_are = at.clients_are; folds = at.folds; asked = (bytes_asked c.args.bytes.now, st.done.asked); done_is = at.done_is })
    (executed_grows g' l got))

pub returns-in-Err-execute_new-clause-fault : goal.returns-in-Err-execute_new-clause-fault
returns-in-Err-execute_new-clause-fault g c = λ g' i got archived ring party st.
    let h = g.H.Hash160.naming in
    let l = letter c.args.from c.args.bytes.now in
    let at = by_book h c.args.self.now g' i got ring st.done in
    done_clash h g' got l c.execute_new.new.book.held c.in-Err-execute_new.fault
    (c.in-Err-execute_new.ensures.fault g' i (l ∷ got) (executed g' got)
    (record { member_stands = c.in-Ok.ensures.stands g' i got ring party st.done.member_stands; clients_are = at.clients_are; folds = at.folds; asked = (bytes_asked c.args.bytes.now, st.done.asked); done_is = at.done_is })
    (executed_grows g' l got))

pub returns-in-Err-clause-keeps : goal.returns-in-Err-clause-keeps
returns-in-Err-clause-keeps g c = c.take.ensures.grew.kept

pub returns-in-Err-execute_new-clause-keeps : goal.returns-in-Err-execute_new-clause-keeps
returns-in-Err-execute_new-clause-keeps g c = λ name string is. c.execute_new.ensures.keeps name string (c.take.ensures.grew.kept name string is)

pub returns-in-Ok-execute_new-clause-keeps : goal.returns-in-Ok-execute_new-clause-keeps
returns-in-Ok-execute_new-clause-keeps g c = λ name string is. c.execute_new.ensures.keeps name string (c.take.ensures.grew.kept name string is)
