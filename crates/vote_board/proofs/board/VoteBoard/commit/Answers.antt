use Rattle.std.proofs.Common.{refl, arith}
use Rattle.vote_words_model.specs.Places.{prepare_word}
use Rattle.vote_words_model.proofs.Keeping.{commit_word_below}
use Rattle.vote_words_model.proofs.Deciding.{decides_one}
use Rattle.vote_board.proofs.Allowed.{commit_at}
use Rattle.vote_board.proofs.Changed.{prepared_later, exchanged_remembers}
use Rattle.vote_board.proofs.Shown.{in_row, from_row}
use Rattle.vote_board.proofs.board.VoteBoard.commit.Goals as goal

pub returns-in_default-clause-not_prepared : goal.returns-in_default-clause-not_prepared
returns-in_default-clause-not_prepared c =
    let t = c.args.self.now.terms in
    ((λ _ x prepared. c.in_default.ensures.none x (from_row t c.look.new.seat.seat.me.0 _ (prepare_word t c.args.slot 0) _ x c.prepare_word-from.ensures c.quorum.ensures prepared)), λ _. refl)

pub returns-in_default-clause-once : goal.returns-in_default-clause-once
returns-in_default-clause-once c = decides_one c.args.self.now.terms c.look.new.seat.seat.me.0 c.look.new.seat.sound

pub compare_exchange-found-requires : goal.compare_exchange-found-requires
compare_exchange-found-requires c =
    let t = c.args.self.now.terms in
    let low = commit_word_below t c.args.slot c.args.member.0 c.requires.place in
    let prepared = in_row t c.look.new.seat.seat.me.0 _ (prepare_word t c.args.slot 0) _ c.in-Some.value c.prepare_word-from.ensures c.quorum.ensures c.in-Some.ensures.some in
    (c.look.ensures.seat, omega arith, commit_at _ _ _ _ _ _ _ _ _ c.args.self.now.key c.commit_word-word.ensures c.requires.place prepared)

pub returns-then-found-eq0-clause-prepared : goal.returns-then-found-eq0-clause-prepared
returns-then-found-eq0-clause-prepared c =
    let t = c.args.self.now.terms in
    let prepared = in_row t c.look.new.seat.seat.me.0 _ (prepare_word t c.args.slot 0) _ c.in-Some.value c.prepare_word-from.ensures c.quorum.ensures c.in-Some.ensures.some in
    prepared_later t c.look.new.seat.seat.me.0 c.compare_exchange-found.new.seat.me.0 c.args.slot c.in-Some.value (exchanged_remembers c.look.new.seat.seat.me.0 c.compare_exchange-found.new.seat.me.0 c.commit_word-word.result c.in-Some.value c.compare_exchange-found.result c.compare_exchange-found.ensures.2.view) prepared

pub returns-then-found-eq0-clause-not_prepared : goal.returns-then-found-eq0-clause-not_prepared
returns-then-found-eq0-clause-not_prepared c =
    ((λ e x _. cc), λ none. absurd (none c.in-Some.value (returns-then-found-eq0-clause-prepared c)))

pub returns-then-found-eq0-clause-once : goal.returns-then-found-eq0-clause-once
returns-then-found-eq0-clause-once c = decides_one c.args.self.now.terms c.compare_exchange-found.new.seat.me.0 c.compare_exchange-found.ensures.2.sound

pub returns-else-found-eq0-clause-prepared : goal.returns-else-found-eq0-clause-prepared
returns-else-found-eq0-clause-prepared c =
    let t = c.args.self.now.terms in
    let prepared = in_row t c.look.new.seat.seat.me.0 _ (prepare_word t c.args.slot 0) _ c.in-Some.value c.prepare_word-from.ensures c.quorum.ensures c.in-Some.ensures.some in
    prepared_later t c.look.new.seat.seat.me.0 c.compare_exchange-found.new.seat.me.0 c.args.slot c.in-Some.value (exchanged_remembers c.look.new.seat.seat.me.0 c.compare_exchange-found.new.seat.me.0 c.commit_word-word.result c.in-Some.value c.compare_exchange-found.result c.compare_exchange-found.ensures.2.view) prepared

pub returns-else-found-eq0-clause-not_prepared : goal.returns-else-found-eq0-clause-not_prepared
returns-else-found-eq0-clause-not_prepared c =
    ((λ e x _. cc), λ none. absurd (none c.in-Some.value (returns-else-found-eq0-clause-prepared c)))

pub returns-else-found-eq0-clause-once : goal.returns-else-found-eq0-clause-once
returns-else-found-eq0-clause-once c = decides_one c.args.self.now.terms c.compare_exchange-found.new.seat.me.0 c.compare_exchange-found.ensures.2.sound
