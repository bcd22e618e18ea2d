-- Strings of requests.
use Rattle.std.proofs.Common.{◌≡◌, ℕ, ◌==◌, Bool, true, false, cond, ◌+◌, List, [], ◌∷◌, ◌++◌, filter, map, reverse, count_by, refl, sym, ap, ◌∙◌, subst, arith}
use Rattle.std.specs.List.{sum_by, AllByRecursion as Each}
use Rattle.std.proofs.lemmas.List.{map-append, reverse-append}
use Rattle.std.proofs.lemmas.List.Sums.{sum_by-append, sum_by-cons}
use Rattle.pond_base.specs.declared.numbers.ClientId.{ClientId}
use Rattle.guarded_update.specs.declared.request.Request.{Request}
use Rattle.guarded_update.specs.Fitting.{IsRequest}
use Rattle.guarded_update.specs.Spelling.{request_string}
use Rattle.ring_model.proofs.History.{Each-append}
use Rattle.text_model.specs.Requests.{count_of}
use Rattle.script_laws.specs.Events.{IsSpelled}

-- the strings of requests, the oldest first
abbrev pub spelled : List Request → List (List ℕ)
spelled requests = map request_string (reverse requests)

pub spelled_more : (request : Request) (requests : List Request) → spelled (request ∷ requests) ≡ spelled requests ++ request_string request ∷ []
spelled_more request requests = ap (map request_string) (reverse-append (request ∷ []) requests) ∙ map-append request_string (reverse requests) (request ∷ [])

-- what holds of each item holds of each that passes a test
pub Each-filter : {X : Type 0} (P : X → Type 0) (t : X → Bool) (xs : List X) → Each P xs → Each P (filter t xs)
Each-filter P t [] all = tt
Each-filter P t (x ∷ xs) all =
    elim (t x) as (λ b. Each P (cond b (x ∷ filter t xs) (filter t xs))) [
      | true ↦ (all.0, Each-filter P t xs all.1)
      | false ↦ Each-filter P t xs all.1
    ]

-- each of them is that of a request
pub each_spelled : (requests : List Request) → Each IsRequest requests → Each IsSpelled (spelled requests)
each_spelled [] all = tt
each_spelled (request ∷ requests) all =
    subst (Each IsSpelled) (sym (spelled_more request requests))
    (Each-append IsSpelled (spelled requests) (request_string request ∷ []) (each_spelled requests all.1) (record { request = request; is = all.0; spelled = refl }, tt))

-- where owners are read, strings are counted as their requests are
pub count_spelled : (own : List ℕ → ℕ) → ((r : Request) → IsRequest r → own (request_string r) ≡ r.client.0) → (client : ClientId) (requests : List Request) → Each IsRequest requests
    → count_by (λ text. own text == client.0) (spelled requests) ≡ count_of client requests
count_spelled own owned client [] all = refl
count_spelled own owned client (request ∷ requests) all =
    let one : List ℕ → ℕ = λ text. cond (own text == client.0) 1 0 in
    let string : List ℕ = request_string request in
    let more : sum_by one (spelled (request ∷ requests)) ≡ sum_by one (spelled requests) + sum_by one (string ∷ []) =
    ap (sum_by one) (spelled_more request requests) ∙ sum_by-append one (spelled requests) (string ∷ []) in
    let last : one string ≡ cond (request.client.0 == client.0) 1 0 = ap (λ c. cond {A = ℕ} (c == client.0) 1 0) (owned request all.0) in
    let before : sum_by one (spelled requests) ≡ count_of client requests = count_spelled own owned client requests all.1 in
    omega (arith, more, last, before, sum_by-cons one string [], sum_by-cons (λ (r : Request). cond (r.client.0 == client.0) 1 0) request requests)
