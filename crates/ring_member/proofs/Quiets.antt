-- Letters that change nothing.
use Rattle.std.proofs.Common.{◌≡◌, ℕ, ◌+◌, ◌*◌, ◌<◌, Bool, true, false, cond, ◌==◌, ◌&&◌, List, [], ◌∷◌, ◌++◌, length, Option, Some, None, bytes_eq, count_by, refl, sym, ap, ap₂, ◌∙◌}
use Rattle.std.proofs.lemmas.Bool.{ne_eqb, eqb-true}
use Rattle.std.proofs.lemmas.Slice.Eq.{bytes_eq-Decides}
use Rattle.quorum.specs.declared.phase.Phase.{Phase}
use Rattle.quorum.specs.declared.phase.Phase.TheVariants as phase
use Rattle.ring_model.specs.Messages.{Ring, Letter, Message, Party, Member as AMember, Client, Request, PrePrepare, Prepare, Commit, Reply, Heart, Sealed, Foreign, same_party}
use Rattle.ring_model.specs.History.{said_by}
use Rattle.ring_model.specs.Member.{pre_prepares, is_request, numbered, chain, ordered_by}
use Rattle.ring_model.specs.World.{IsParty}
use Rattle.vote_model.specs.Joins.{says}
use Rattle.member_orders.specs.Told.{orders_told}
use Rattle.member_orders.proofs.Owed as orders
use Rattle.ring_member.specs.declared.member.Member.{Member}
use Rattle.ring_member.specs.Views.{view_of}
use Rattle.ring_member.specs.Standing.{is_for}
use Rattle.ring_member.specs.Told.{votes_told}
use Rattle.ring_member.specs.Members.{vote_of, StandsFor, told}
use Rattle.ring_member.proofs.Executing.{late_stands}
use Rattle.ring_member.proofs.Letters as letters
use Rattle.ring_member.proofs.Telling.{told_nothing}

cond_none : {X : Type 0} (b : Bool) → ◌≡◌ {A = Option X} (cond b None None) None
cond_none true = refl
cond_none false = refl

and_false : (b : Bool) → (b && false) ≡ false
and_false true = refl
and_false false = refl

pub record Idle (g : Ring) (l : Letter) : Type 0 where
  pub slots : (n : ℕ) → letters.Quiet g n l
  pub orders_same : orders.Quiet g l

pub idle_stands : (g : Ring) (i : ℕ) (m : Member) (got : List Letter) (l : Letter) → StandsFor g i m got → Idle g l → StandsFor g i m (l ∷ got)
idle_stands g i m got l st idle =
    let p = m.progress in
    record {
      is = st.is;
      progress_stands = late_stands g p.f (view_of p) l got st.progress_stands (letters.quiet_live g p.f (view_of p) got l st.progress_stands.live (idle.slots (length p.done)));
      orders_stand = λ z. orders.quiet_stands g _ l got idle.orders_same (st.orders_stand z);
    }

no_orders : (g : Ring) (i : ℕ) (got : List Letter) (l : Letter) → g.slots ≡ 65536 → orders.Quiet g l → cond (i == 0) (orders_told g got (l ∷ got)) [] ≡ []
no_orders g i got l limit quiet = ap (λ xs. cond (i == 0) xs []) (orders.quiet_told g l got limit quiet) ∙ none (i == 0)
  where
    none : (b : Bool) → ◌≡◌ {A = List Message} (cond b [] []) []
    none true = refl
    none false = refl

-- what is owed for votes alone
pub votes_alone : (g : Ring) (i : ℕ) (m : Member) (got : List Letter) (l : Letter) (ms : List Message) → StandsFor g i m got → orders.Quiet g l
    → ms ≡ votes_told g got (l ∷ got) → ms ≡ told g i got (l ∷ got)
votes_alone g i m got l ms st quiet e = e ∙ ap (λ xs. xs ++ votes_told g got (l ∷ got)) (sym (no_orders g i got l st.progress_stands.live.limit quiet))

pub idle_told : (g : Ring) (i : ℕ) (m : Member) (got : List Letter) (l : Letter) → StandsFor g i m got → Idle g l → told g i got (l ∷ got) ≡ []
idle_told g i m got l st idle =
    let p = m.progress in
    ap₂ (λ xs ys. xs ++ ys) (no_orders g i got l st.progress_stands.live.limit idle.orders_same)
    (told_nothing g p.f (view_of p) got (l ∷ got) st.progress_stands (letters.quiet_live g p.f (view_of p) got l st.progress_stands.live (idle.slots (length p.done))))

-- ---- which letters

abbrev from_to : Party → Message → Letter
from_to p m = record { from = p; message = m }

quiet_from_member : (g : Ring) (k : ℕ) (m : Message) → orders.Quiet g (from_to (AMember k) m)
quiet_from_member g k m = record { nothing = λ older done. refl; words = λ d n. refl }

pub vote_orders : (g : Ring) (p : Phase) (k t : ℕ) (d : List ℕ) → orders.Quiet g (from_to (AMember k) (vote_of p t d))
vote_orders g p k t d = quiet_from_member g k (vote_of p t d)

pub order_orders : (g : Ring) (k t : ℕ) (r : List ℕ) → orders.Quiet g (from_to (AMember k) (PrePrepare t r))
order_orders g k t r = quiet_from_member g k (PrePrepare t r)

-- a vote from a client
pub vote_from_client : (g : Ring) (c : ℕ) (p : Phase) (t : ℕ) (d : List ℕ) → c < g.clients → Idle g (from_to (Client c) (vote_of p t d))
vote_from_client g c phase.Prepare t d party = record {
  slots = λ n. record { party = party; orders = λ s h. refl; votes = λ q s j h. refl; asking = λ r. and_false (c == g.owner r); other = λ s h. refl };
  orders_same = record { nothing = λ older done. refl; words = λ e k. cond_none (c == e) };
}
vote_from_client g c phase.Commit t d party = record {
  slots = λ n. record { party = party; orders = λ s h. refl; votes = λ q s j h. refl; asking = λ r. and_false (c == g.owner r); other = λ s h. refl };
  orders_same = record { nothing = λ older done. refl; words = λ e k. cond_none (c == e) };
}

-- an order from a client, or from a member that is not the primary
pub order_from_client : (g : Ring) (c t : ℕ) (r : List ℕ) → c < g.clients → Idle g (from_to (Client c) (PrePrepare t r))
order_from_client g c t r party = record {
  slots = λ n. record { party = party; orders = λ s h. refl; votes = λ q s j h. refl; asking = λ q. and_false (c == g.owner q); other = λ s h. refl };
  orders_same = record { nothing = λ older done. refl; words = λ e k. cond_none (c == e) };
}

pub order_from_member : (g : Ring) (k t : ℕ) (r : List ℕ) → k < 3 * g.f + 1 → (k ≡ 0 → ⊥) → Idle g (from_to (AMember k) (PrePrepare t r))
order_from_member g k t r party apart = record {
  slots = λ n. record {
    party = party;
    orders = λ s h. ap (λ b. cond b (pre_prepares s (PrePrepare t r)) None) (ne_eqb k 0 apart);
    votes = λ q s j h. silent q s j;
    asking = λ q. refl;
    other = λ s h. ap (λ b. b && (t == s)) (ne_eqb k 0 apart);
  };
  orders_same = quiet_from_member g k (PrePrepare t r);
} where
  silent : (q : Phase) (s j : ℕ) → said_by (AMember j) (says q s) (from_to (AMember k) (PrePrepare t r)) ≡ None
  silent phase.Prepare s j = cond_none (k == j)
  silent phase.Commit s j = cond_none (k == j)

-- a request from a member, or from another client
pub request_from_member : (g : Ring) (k : ℕ) (r : List ℕ) → k < 3 * g.f + 1 → Idle g (from_to (AMember k) (Request r))
request_from_member g k r party = record {
  slots = λ n. record { party = party; orders = λ s h. cond_none (k == 0); votes = λ q s j h. silent q s j; asking = λ q. refl; other = λ s h. refl };
  orders_same = quiet_from_member g k (Request r);
} where
  silent : (q : Phase) (s j : ℕ) → said_by (AMember j) (says q s) (from_to (AMember k) (Request r)) ≡ None
  silent phase.Prepare s j = cond_none (k == j)
  silent phase.Commit s j = cond_none (k == j)

pub request_from_other : (g : Ring) (c : ℕ) (r : List ℕ) → c < g.clients → (g.owner r ≡ c → ⊥) → Idle g (from_to (Client c) (Request r))
request_from_other g c r party apart = record {
  slots = λ n. record { party = party; orders = λ s h. refl; votes = λ q s j h. refl; asking = λ q. not_its q (bytes_eq r q) refl; other = λ s h. refl };
  orders_same = record {
    nothing = λ older done. ap (λ b. cond b (chain g c older (count_by (λ t. g.owner t == c) done)) []) (ne_eqb (g.owner r) c apart);
    words = λ d k. not_own d k (c == d) refl;
  };
} where
  not_its : (q : List ℕ) (b : Bool) → bytes_eq r q ≡ b → ((c == g.owner q) && bytes_eq r q) ≡ false
  not_its q true e = ap (λ x. x && bytes_eq r q) (ne_eqb c (g.owner q) (λ k. apart (ap g.owner ((bytes_eq-Decides r q).0 e) ∙ sym k)))
  not_its q false e = ap (λ x. (c == g.owner q) && x) e ∙ and_false (c == g.owner q)

  not_own : (d k : ℕ) (b : Bool) → (c == d) ≡ b → cond (c == d) (cond (g.owner r == d && g.number r == k) (Some r) None) None ≡ None
  not_own d k true e =
      ap (λ x. cond x (cond (g.owner r == d && g.number r == k) (Some r) None) None) e
      ∙ ap (λ x. cond (x && g.number r == k) (Some r) None) (ne_eqb (g.owner r) d (λ q. apart (q ∙ sym (eqb-true c d e))))
  not_own d k false e = ap (λ x. cond x (cond (g.owner r == d && g.number r == k) (Some r) None) None) e

-- news for clients, and bytes that are no message
abbrev pub IsNews : Message → Type 0
IsNews (Request r) = ⊥
IsNews (PrePrepare t r) = ⊥
IsNews (Prepare t d) = ⊥
IsNews (Commit t d) = ⊥
IsNews (Reply n o) = Unit {0}
IsNews (Heart o v n) = Unit {0}
IsNews (Sealed o v n) = Unit {0}
IsNews Foreign = Unit {0}

news_words : (g : Ring) (m : Message) → IsNews m → (d k : ℕ) → numbered g d k m ≡ None
news_words g (Reply n o) h d k = refl
news_words g (Heart o v n) h d k = refl
news_words g (Sealed o v n) h d k = refl
news_words g Foreign h d k = refl
news_words g (Request r) h d k = absurd h
news_words g (PrePrepare t r) h d k = refl
news_words g (Prepare t e) h d k = refl
news_words g (Commit t e) h d k = refl

news_votes : (m : Message) → IsNews m → (q : Phase) (s : ℕ) → says q s m ≡ None
news_votes (Reply n o) h phase.Prepare s = refl
news_votes (Heart o v n) h phase.Prepare s = refl
news_votes (Sealed o v n) h phase.Prepare s = refl
news_votes Foreign h phase.Prepare s = refl
news_votes (Reply n o) h phase.Commit s = refl
news_votes (Heart o v n) h phase.Commit s = refl
news_votes (Sealed o v n) h phase.Commit s = refl
news_votes Foreign h phase.Commit s = refl
news_votes (Request r) h q s = absurd h
news_votes (PrePrepare t r) h q s = absurd h
news_votes (Prepare t e) h q s = absurd h
news_votes (Commit t e) h q s = absurd h

news_orders : (m : Message) → IsNews m → (s : ℕ) → pre_prepares s m ≡ None
news_orders (Reply n o) h s = refl
news_orders (Heart o v n) h s = refl
news_orders (Sealed o v n) h s = refl
news_orders Foreign h s = refl
news_orders (Request r) h s = absurd h
news_orders (PrePrepare t r) h s = absurd h
news_orders (Prepare t e) h s = absurd h
news_orders (Commit t e) h s = absurd h

news_asks : (r : List ℕ) (m : Message) → IsNews m → is_request r m ≡ false
news_asks r (Reply n o) h = refl
news_asks r (Heart o v n) h = refl
news_asks r (Sealed o v n) h = refl
news_asks r Foreign h = refl
news_asks r (Request q) h = absurd h
news_asks r (PrePrepare t q) h = absurd h
news_asks r (Prepare t e) h = absurd h
news_asks r (Commit t e) h = absurd h

news_for : (p : Party) (m : Message) → IsNews m → (s : ℕ) → is_for s p m ≡ false
news_for (Client c) m h s = refl
news_for (AMember i) (Reply n o) h s = refl
news_for (AMember i) (Heart o v n) h s = refl
news_for (AMember i) (Sealed o v n) h s = refl
news_for (AMember i) Foreign h s = refl
news_for (AMember i) (Request q) h s = absurd h
news_for (AMember i) (PrePrepare t q) h s = absurd h
news_for (AMember i) (Prepare t e) h s = absurd h
news_for (AMember i) (Commit t e) h s = absurd h

news_next : (g : Ring) (p : Party) (m : Message) → IsNews m → (older : List Letter) (done : List (List ℕ)) → ordered_by g older done p m ≡ []
news_next g (AMember i) m h older done = refl
news_next g (Client c) (Reply n o) h older done = refl
news_next g (Client c) (Heart o v n) h older done = refl
news_next g (Client c) (Sealed o v n) h older done = refl
news_next g (Client c) Foreign h older done = refl
news_next g (Client c) (Request q) h older done = absurd h
news_next g (Client c) (PrePrepare t q) h older done = absurd h
news_next g (Client c) (Prepare t e) h older done = absurd h
news_next g (Client c) (Commit t e) h older done = absurd h

pub news_idle : (g : Ring) (p : Party) (m : Message) → IsParty g p → IsNews m → Idle g (from_to p m)
news_idle g p m party news = record {
  slots = λ n. record {
    party = party;
    orders = λ s h. ap (λ o. cond (same_party p (AMember 0)) o None) (news_orders m news s) ∙ cond_none (same_party p (AMember 0));
    votes = λ q s j h. ap (λ o. cond (same_party p (AMember j)) o None) (news_votes m news q s) ∙ cond_none (same_party p (AMember j));
    asking = λ r. ap (λ b. same_party p (Client (g.owner r)) && b) (news_asks r m news) ∙ and_false (same_party p (Client (g.owner r)));
    other = λ s h. news_for p m news s;
  };
  orders_same = record {
    nothing = news_next g p m news;
    words = λ d k. ap (λ o. cond (same_party p (Client d)) o None) (news_words g m news d k) ∙ cond_none (same_party p (Client d));
  };
}
