use Rattle.std.proofs.Common.{◌≡◌, ◌++◌, List, ℕ, [], ◌∷◌, Some, IsTrue, ◌∙◌, sym, ap, length, append-nil, arith}
use Rattle.manifest.specs.declared.fault.ReadFault.TheVariants.{Memory}
use Rattle.manifest.specs.declared.manifest.Manifest.{Manifest}
use Rattle.manifest.specs.Decoding.{manifest_in}
use Rattle.manifest.specs.Grammar.{is_manifest}
use Rattle.manifest.specs.Spelling.{manifest_string}
use Rattle.manifest.proofs.Decoded.{written_again, none_spelled}
use Rattle.manifest.proofs.reading.read.Goals as goal

-- a manifest that nothing stands behind
all_of_it : (bytes : List ℕ) (m : Manifest) (left : List ℕ) → bytes ≡ manifest_string m ++ left → length left ≡ 0 → IsTrue (is_manifest m) → Some m ≡ manifest_in bytes
all_of_it bytes m [] e none is = sym (ap manifest_in (e ∙ append-nil (manifest_string m)) ∙ written_again m is)
all_of_it bytes m (x ∷ left) e none is = absurd (omega arith)

pub returns-then-left-eq0 : goal.returns-then-left-eq0
returns-then-left-eq0 c = all_of_it c.args.bytes.now c.in-Ok.manifest c.read_manifest.new.fields (sym c.new-fields.ensures ∙ c.in-Ok.ensures.read.0) (sym c.left.ensures ∙ c.if-left-eq0.true) c.in-Ok.ensures.read.1

pub returns-else-left-eq0 : goal.returns-else-left-eq0
returns-else-left-eq0 c = sym (none_spelled c.args.bytes.now (λ m is e.
    let read = c.in-Ok.ensures.spelled m [] is (c.new-fields.ensures ∙ e ∙ sym (append-nil (manifest_string m))) in
    c.if-left-eq0.false (c.left.ensures ∙ ap length read.1)))

pub returns-in-Err-Foreign : goal.returns-in-Err-Foreign
returns-in-Err-Foreign c = sym (none_spelled c.args.bytes.now (λ m is e.
    let fault : c.in-Err-Foreign.field-0 ≡ Memory = c.in-Err-Foreign.ensures.spelled m [] is (c.new-fields.ensures ∙ e ∙ sym (append-nil (manifest_string m))) in
    absurd (cc)))
