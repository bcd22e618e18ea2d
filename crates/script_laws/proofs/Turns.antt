-- What follows of lines that are within their limits.
use Rattle.std.proofs.Common.{◌≡◌, ◌≤◌, ◌*◌, ◌∷◌, [], ◌++◌, ◌==◌, ◌||◌, ℕ, List, Bool, true, false, cond, reverse, length, refl, sym, subst, ◌∙◌, ap, arith}
use Rattle.std.specs.List.{filter, list_any, AllByRecursion}
use Rattle.std.proofs.lemmas.Bool.{eqb-true}
use Rattle.std.proofs.lemmas.List.{reverse-append, append_assoc}
use Rattle.std.proofs.lemmas.List.Sums.{sum_by-cons}
use Rattle.guarded_update.specs.declared.request.Request.{Request}
use Rattle.guarded_update.specs.declared.setup.Setup.{Setup}
use Rattle.pond_base.specs.declared.numbers.ClientId.{ClientId}
use Rattle.pond_base.specs.declared.numbers.MemberId.{MemberId}
use Rattle.script_terms.specs.declared.item.Item.{Item}
use Rattle.script_terms.specs.declared.item.Item.TheVariants.{Event}
use Rattle.script_terms.specs.declared.line.Line.{Line}
use Rattle.script_terms.specs.declared.line.Line.TheVariants.{Submit, Resubmit, ForgeOrder, ForgePrepare, ForgeCommit, ForgeHeart, ForgeRaw}
use Rattle.script_grammar.specs.Known.{is_request, is_submit_of}
use Rattle.text_model.specs.Requests.{Numbered, count_of, next_request, submitted, with_line}
use Rattle.script_laws.specs.Limits.{IsFaulty, IsMember, LineFits, LinesFit, SetupFits, items_of, requests_in, submits_in}

behind : (setup : Setup) (more earlier : List Numbered) → LinesFit setup (more ++ earlier) → LinesFit setup earlier
behind setup [] earlier f = f
behind setup (line ∷ more) earlier f = behind setup more earlier f.1

in_turn : (before : List Numbered) (line : Numbered) (rest : List Numbered) → reverse (before ++ line ∷ rest) ≡ reverse rest ++ (line ∷ reverse before)
in_turn before line rest =
    ap reverse (sym (append_assoc before (line ∷ []) rest)) ∙ (reverse-append (before ++ line ∷ []) rest ∙ ap (λ x. reverse rest ++ x) (reverse-append before (line ∷ [])))

pub line_in_turn : (setup : Setup) (before : List Numbered) (line : Numbered) (rest : List Numbered) → LinesFit setup (reverse (before ++ line ∷ rest)) → LineFits setup (reverse before) line.1
line_in_turn setup before line rest f = (behind setup (reverse rest) (line ∷ reverse before) (subst (LinesFit setup) (in_turn before line rest) f)).0

-- a request more in a count
counted : (client : ClientId) (request : Request) (requests : List Request) (b : Bool) (x : Item) (xs : List Item) → (request.client.0 == client.0) ≡ b → count_of client requests ≡ length xs
    → count_of client (request ∷ requests) ≡ length (cond b (x ∷ xs) xs)
counted client request requests true x xs e same =
    sum_by-cons (λ (r : Request). cond (r.client.0 == client.0) 1 0) request requests ∙ rw e (omega (arith, same))
counted client request requests false x xs e same =
    sum_by-cons (λ (r : Request). cond (r.client.0 == client.0) 1 0) request requests ∙ rw e (omega (arith, same))

submit_counts : (h : List ℕ → List ℕ) (earlier : List Numbered) (line : Line) (client : ClientId) → count_of client (submitted h earlier) ≡ submits_in earlier client
    → count_of client (with_line h (submitted h earlier) line) ≡ length (filter (is_submit_of client.0) (Event line ∷ items_of earlier))
submit_counts h earlier (Submit by label clauses) client e =
    counted client (next_request h (submitted h earlier) by label clauses) (submitted h earlier) (by.0 == client.0) (Event (Submit by label clauses)) (filter (is_submit_of client.0) (items_of earlier)) refl e
submit_counts h earlier line client e = e

pub submits_are_requests : (h : List ℕ → List ℕ) (lines : List Numbered) (client : ClientId) → count_of client (submitted h lines) ≡ submits_in lines client
submits_are_requests h [] client = refl
submits_are_requests h (line ∷ earlier) client = submit_counts h earlier line.1 client (submits_are_requests h earlier client)

request_counts : (h : List ℕ → List ℕ) (earlier : List Numbered) (line : Line) → length (submitted h earlier) ≤ requests_in earlier
    → length (with_line h (submitted h earlier) line) ≤ length (filter is_request (Event line ∷ items_of earlier))
request_counts h earlier (Submit by label clauses) l = omega (arith, l)
request_counts h earlier (Resubmit by number) l = omega (arith, l)
request_counts h earlier (ForgeOrder member to seq by number) l = omega (arith, l)
request_counts h earlier (ForgePrepare member to seq by number) l = omega (arith, l)
request_counts h earlier (ForgeCommit member to seq by number) l = omega (arith, l)
request_counts h earlier (ForgeHeart member to label version name) l = omega (arith, l)
request_counts h earlier (ForgeRaw member to content) l = omega (arith, l)
request_counts h earlier line l = l

pub few_are_submitted : (h : List ℕ → List ℕ) (lines : List Numbered) → length (submitted h lines) ≤ requests_in lines
few_are_submitted h [] = omega arith
few_are_submitted h (line ∷ earlier) = request_counts h earlier line.1 (few_are_submitted h earlier)

-- a number among members that are at most some number
among : (most number : ℕ) (members : List MemberId) → AllByRecursion (λ (member : MemberId). member.0 ≤ most) members → list_any (λ (member : MemberId). member.0 == number) members ≡ true → number ≤ most
among most number [] all any = absurd (cc)
among most number (member ∷ members) all any =
    either (member.0 == number) (list_any (λ (other : MemberId). other.0 == number) members) (λ e. omega (arith, eqb-true member.0 number e, all.0)) (λ e. among most number members all.1 e) any
  where
    either : (a b : Bool) → (a ≡ true → number ≤ most) → (b ≡ true → number ≤ most) → (a || b) ≡ true → number ≤ most
    either true b f g e = f refl
    either false b f g e = g e

pub faulty_are_members : (setup : Setup) (member : MemberId) → SetupFits setup → IsFaulty setup member → IsMember setup member
faulty_are_members setup member s f = among (3 * setup.f) member.0 setup.faulty s.members f
