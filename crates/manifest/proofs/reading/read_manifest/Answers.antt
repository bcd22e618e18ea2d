use Rattle.std.proofs.Common.{◌++◌, ◌∙◌, ap, sym, subst, IsTrue, append_assoc}
use Rattle.std.proofs.lemmas.Result.{err_from_is_err_and}
use Rattle.std.specs.List.{flat_map, list_all}
use Rattle.manifest.specs.Grammar.{is_entry}
use Rattle.manifest.specs.Spelling.{entry_string, head_string, head_of}
use Rattle.manifest.proofs.Parts.{manifest_parts}
use Rattle.manifest.proofs.reading.read_manifest.Goals as goal

pub returns-in_err-head-clause-spelled : goal.returns-in_err-head-clause-spelled
returns-in_err-head-clause-spelled c = let p = err_from_is_err_and c.from_residual.result c.from_residual.ensures.1 in
    λ m rest is e. rw (p.1, p.2)
    (c.in_err-head.ensures.spelled (head_of m) (flat_map entry_string m.entries ++ rest) (manifest_parts m is).0 (e ∙ append_assoc (head_string (head_of m)) (flat_map entry_string m.entries) rest))

pub returns-in_err-entries-clause-spelled : goal.returns-in_err-entries-clause-spelled
returns-in_err-entries-clause-spelled c = let p = err_from_is_err_and c.from_residual-in_err-entries.result c.from_residual-in_err-entries.ensures.1 in
    λ m rest is e.
    let parts = manifest_parts m is in
    let a = c.in_ok-head.ensures.spelled (head_of m) (flat_map entry_string m.entries ++ rest) parts.0 (e ∙ append_assoc (head_string (head_of m)) (flat_map entry_string m.entries) rest) in
    rw (p.1, p.2) (c.in_err-entries.ensures.spelled m.entries rest (sym (ap (λ h. h.count) a.0)) (subst (λ n. IsTrue (list_all (is_entry n) m.entries)) (sym (ap (λ h. h.n) a.0)) parts.1) a.1)

pub returns-clause-spelled : goal.returns-clause-spelled
returns-clause-spelled c = λ m rest is e.
    let parts = manifest_parts m is in
    let a = c.in_ok-head.ensures.spelled (head_of m) (flat_map entry_string m.entries ++ rest) parts.0 (e ∙ append_assoc (head_string (head_of m)) (flat_map entry_string m.entries) rest) in
    let b = c.in_ok-entries.ensures.spelled m.entries rest (sym (ap (λ h. h.count) a.0)) (subst (λ n. IsTrue (list_all (is_entry n) m.entries)) (sym (ap (λ h. h.n) a.0)) parts.1) a.1 in
    (λ i. let h = a.0 i in record { systematic = h.systematic; m = h.m; n = h.n; version = h.version; object = h.object; entries = b.0 i }, b.1)
