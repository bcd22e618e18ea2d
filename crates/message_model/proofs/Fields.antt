-- Fields that are taken where they stand are those that were spelled.
use Rattle.std.proofs.Common.{◌≡◌, ℕ, zero, suc, ◌<◌, ◌^◌, List, [], ◌∷◌, ◌++◌, length, take, drop, refl, ap, ap₂, sym, ◌∙◌, arith, append_assoc, append-nil}
use Rattle.std.specs.List.{flat_map, AllByRecursion}
use Rattle.std.proofs.Math.Seq.{take-append_seam, drop-append_seam}
use Rattle.std.proofs.lemmas.Nat.{from_be_bytes-to_be_bytes_4}
use Rattle.guarded_update.specs.declared.update.Action.{Action}
use Rattle.guarded_update.specs.declared.update.Action.TheVariants.{Replace, Append, Truncate, Splice}
use Rattle.guarded_update.specs.declared.update.Guard.{Guard}
use Rattle.guarded_update.specs.declared.update.Guard.TheVariants.{VersionIs, SizeIs, BlockIs}
use Rattle.guarded_update.specs.declared.update.Clause.{Clause}
use Rattle.guarded_update.specs.declared.request.Request.{Request}
use Rattle.guarded_update.specs.Fitting.{IsGuard, IsAction, IsClause, HasPlaces}
use Rattle.guarded_update.specs.Spelling.{number, counted, guard_string, action_string, clause_string, request_string, update_field}
use Rattle.message_model.specs.Requests.{number_at, content_at, several, counted_at, guard_at, action_at, clause_at, request_at}

pub number_seam : (n : ℕ) (rest : List ℕ) → n < 2 ^ 32 → number_at (number n ++ rest) ≡ n
number_seam n rest small = from_be_bytes-to_be_bytes_4 n small

pub take_seam : (n : ℕ) (xs ys : List ℕ) → length xs ≡ n → take n (xs ++ ys) ≡ xs
take_seam n xs ys e = ap (λ k. take k (xs ++ ys)) (sym e) ∙ take-append_seam xs ys

pub drop_seam : (n : ℕ) (xs ys : List ℕ) → length xs ≡ n → drop n (xs ++ ys) ≡ ys
drop_seam n xs ys e = ap (λ k. drop k (xs ++ ys)) (sym e) ∙ drop-append_seam xs ys

abbrev pair : {X Y : Type 0} → X → Y → X × Y
pair x y = (x, y)

content_seam : (content rest : List ℕ) → length content < 2 ^ 32 → content_at (counted content ++ rest) ≡ (content, rest)
content_seam content rest small =
    let n = number_seam (length content) (content ++ rest) small in
    ap (λ k. pair (take k (content ++ rest)) (drop k (content ++ rest))) n ∙ ap₂ pair (take-append_seam content rest) (drop-append_seam content rest)

pub several_seam : {X : Type 0} (one : List ℕ → X × List ℕ) (spell : X → List ℕ) (Is : X → Type 0) → ((x : X) (rest : List ℕ) → Is x → one (spell x ++ rest) ≡ (x, rest))
    → (n : ℕ) (xs : List X) (rest : List ℕ) → length xs ≡ n → AllByRecursion Is xs → several one n (flat_map spell xs ++ rest) ≡ (xs, rest)
several_seam one spell Is step zero [] rest e all = refl
several_seam one spell Is step zero (x ∷ xs) rest e all = absurd (omega (arith, e))
several_seam one spell Is step (suc n) [] rest e all = absurd (omega (arith, e))
several_seam {X} one spell Is step (suc n) (x ∷ xs) rest e all =
    let front : one (flat_map spell (x ∷ xs) ++ rest) ≡ (x, flat_map spell xs ++ rest) = ap one (append_assoc (spell x) (flat_map spell xs) rest) ∙ step x (flat_map spell xs ++ rest) all.0 in
    ap (λ (first : X × List ℕ). pair (first.0 ∷ (several one n first.1).0) (several one n first.1).1) front
    ∙ ap (λ (more : List X × List ℕ). pair (x ∷ more.0) more.1) (several_seam one spell Is step n xs rest (omega (arith, e)) all.1)

pub guard_seam : (g : Guard) (rest : List ℕ) → IsGuard g → guard_at (guard_string g ++ rest) ≡ (g, rest)
guard_seam (VersionIs version) rest is = ap (λ n. pair (VersionIs (record { 0 = n })) rest) (number_seam version.0 rest is)
guard_seam (SizeIs size) rest is = ap (λ n. pair (SizeIs n) rest) (number_seam size rest is)
guard_seam (BlockIs place name) rest is =
    ap (λ n. pair (BlockIs n (take 20 (name ++ rest))) (drop 20 (name ++ rest))) (number_seam place (name ++ rest) is.0)
    ∙ ap₂ (λ m r. pair (BlockIs place m) r) (take_seam 20 name rest is.1) (drop_seam 20 name rest is.1)

pub action_seam : (a : Action) (rest : List ℕ) → IsAction a → action_at (action_string a ++ rest) ≡ (a, rest)
action_seam (Replace offset content) rest is =
    ap₂ (λ n (c : List ℕ × List ℕ). pair (Replace n c.0) c.1) (number_seam offset (counted content ++ rest) is.0) (content_seam content rest is.1)
action_seam (Append content) rest is = ap (λ (c : List ℕ × List ℕ). pair (Append c.0) c.1) (content_seam content rest is)
action_seam (Truncate kept) rest is = ap (λ n. pair (Truncate n) rest) (number_seam kept rest is)
action_seam (Splice offset remove content) rest is =
    ap (λ n. pair (Splice n (number_at (number remove ++ counted content ++ rest)) (content_at (counted content ++ rest)).0) (content_at (counted content ++ rest)).1) (number_seam offset (number remove ++ counted content ++ rest) is.0)
    ∙ ap₂ (λ n (c : List ℕ × List ℕ). pair (Splice offset n c.0) c.1) (number_seam remove (counted content ++ rest) is.1) (content_seam content rest is.2)

abbrev clause_of : List Guard → List Action → Clause
clause_of guards actions = record { guards = guards; actions = actions }

pub clause_seam : (c : Clause) (rest : List ℕ) → IsClause c → clause_at (clause_string c ++ rest) ≡ (c, rest)
clause_seam c rest is =
    let actions_field = length c.actions ∷ flat_map action_string c.actions in
    let guards : several guard_at (length c.guards) ((flat_map guard_string c.guards ++ actions_field) ++ rest) ≡ (c.guards, actions_field ++ rest)
    = ap (several guard_at (length c.guards)) (append_assoc (flat_map guard_string c.guards) actions_field rest)
    ∙ several_seam guard_at guard_string IsGuard guard_seam (length c.guards) c.guards (actions_field ++ rest) refl is.guards in
    let actions : several action_at (length c.actions) (flat_map action_string c.actions ++ rest) ≡ (c.actions, rest) = several_seam action_at action_string IsAction action_seam (length c.actions) c.actions rest refl is.actions in
    ap (λ (gs : List Guard × List ℕ). pair (clause_of gs.0 (counted_at action_at gs.1).0) (counted_at action_at gs.1).1) guards
    ∙ ap (λ (xs : List Action × List ℕ). pair (clause_of c.guards xs.0) xs.1) actions

abbrev with_fields : Request → ℕ → List ℕ → List Clause → Request
with_fields r number label clauses = record { client = r.client; number = number; label = label; update = record { clauses = clauses } }

-- the request at the bytes that spell a request is that request
pub request_seam : (r : Request) → HasPlaces r → request_at (request_string r) ≡ r
request_seam r is =
    let cs = r.update.clauses in
    let update = update_field cs in
    let after = length r.label ∷ r.label ++ update in
    let clauses : several clause_at (length cs) (flat_map clause_string cs) ≡ (cs, [])
    = ap (several clause_at (length cs)) (sym (append-nil (flat_map clause_string cs)))
    ∙ several_seam clause_at clause_string IsClause clause_seam (length cs) cs [] refl is.clauses in
    ap (λ n. with_fields r n (take (length r.label) (r.label ++ update)) (counted_at clause_at (drop (length r.label) (r.label ++ update))).0) (number_seam r.number after is.number)
    ∙ ap₂ (λ l u. with_fields r r.number l (counted_at clause_at u).0) (take-append_seam r.label update) (drop-append_seam r.label update)
    ∙ ap (λ (p : List Clause × List ℕ). with_fields r r.number r.label p.0) clauses
