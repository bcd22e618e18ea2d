use Rattle.std.proofs.Common.{sym, ◌∙◌, refl}
use Rattle.ring_mail.proofs.Passing.{next_found, next_none}
use Rattle.ring_mail.proofs.kept.Mail.next.Goals as goal

pub returns-in-Some : goal.returns-in-Some
returns-in-Some c = λ sent done h.
    let found = c.in-Some.ensures.found h.heads_are in
    c.note_at.ensures sent done h ∙ sym (next_found c.args.self.now sent done c.in-Some.number found.0 h found.2 found.3 (c.in-Some.ensures.least h.heads_are))

pub returns-in-None : goal.returns-in-None
returns-in-None c = λ sent done h. sym (next_none c.args.self.now sent done h (c.in-None.ensures.none refl h.heads_are))
