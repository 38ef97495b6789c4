-- Each kind of step keeps the rule.
use Rattle.std.proofs.Common.{◌≡◌, ◌≢◌, ◌∙◌, ◌⊎◌, ℕ, zero, suc, ◌+◌, ◌<◌, ◌≤◌, Option, None, Some, List, [], ◌∷◌, map, set, flat_map, get_or, length, slice_index, refl, sym, ap, subst, ⊎_elim, arith, get_or-set_same, get_or-set_other}
use Rattle.std.proofs.lemmas.List.{length-set, map-set, set-get_or}
use Rattle.std.proofs.lemmas.Option.{same_Some}
use mathlib.Core.Option.{some, some-injective, some-ne-none}
use lib.ListN.{get_elem?}
use Rattle.atomic_table.specs.Table.{State}
use Rattle.atomic_table.proofs.Lists.{at_map, at_set}
use Rattle.bip_defs.specs.Lists.{Among}
use Rattle.bip_defs.specs.Occurrences.{times}
use Rattle.bip_defs.specs.WordValues.{held, value_of}
use Rattle.bip_defs.proofs.Sets.{among_either, among_last, among_left, among_right, number_same}
use Rattle.bip_defs.proofs.WordValues.{value_there}
use Rattle.flip_words.specs.Accounts.{Settles, is_held}
use Rattle.flip_words.specs.WordCodes.{half, mate_of, mates_in, takers_in, tree_of, trees_in, vertex_word}
use Rattle.flip_words.specs.Listed.{Listed, all_listed, followed_by, looked, put, took, nothing}
use Rattle.flip_words.specs.Rule.{IsOfTaken, Kept, Known, SetsItsOwn}
use Rattle.flip_words.specs.Steps.{knowing}
use Rattle.flip_words.proofs.AccountLemmas.{sets_of, settles_look, settles_put, settles_seen, settles_take}
use Rattle.board_seats.proofs.WordCodes.{first_below, first_read, firsts_first, firsts_rest, rest_first, rest_read, rest_rest}
use Rattle.flip_words.proofs.WordCodes.{mate_coded, tree_coded}
use Rattle.board_seats.proofs.Flat.{among_flat, times_none, times_some, times_two}
use Rattle.board_seats.proofs.SeatNumbers.{seated_step}
use Rattle.board_seats.specs.View.{listed_or}
use Rattle.board_seats.proofs.States.{with_words}

-- a list that an element of all lists comes from, with its place
from_flat : {L X : Type 0} (g : L → List X) (ls : List L) (x : X) → Among x (flat_map g ls) → (i : ℕ) × (l : L) × (get_elem? ls i ≡ some l) × Among x (g l)
from_flat g [] x h = elim h [ ]
from_flat g (l ∷ ls) x h = ⊎_elim (λ t. (0, l, refl, t)) (λ t. let r = from_flat g ls x t in (suc r.0, r.1, r.2, r.3)) (among_either x (g l) (flat_map g ls) h)

-- the view that lists stand for
from_map : {V L : Type 0} (f : V → L) (vs : List V) (i : ℕ) (l : L) → get_elem? (map f vs) i ≡ some l → (v : V) × (get_elem? vs i ≡ some v) × (f v ≡ l)
from_map f [] i l at = absurd (some-ne-none l (sym at))
from_map f (v ∷ vs) zero l at = (v, refl, some-injective (f v) l at)
from_map f (v ∷ vs) (suc i) l at = from_map f vs i l at

held_once : (o : Option ℕ) → is_held o ≤ 1
held_once None = omega arith
held_once (Some x) = omega arith

-- What a seat sets is of a tree that it lists as taken, after each kind of step.

owns_took : (trees : List (Option ℕ)) (l : Listed) (root number : ℕ) (found : Option ℕ) → SetsItsOwn trees l → SetsItsOwn trees (took l root number found)
owns_took trees l root number None own v mate h = let t = own v mate h in (t.0, t.1, t.2, among_left (t.0, t.1) l.taken ((root, number) ∷ []) t.3)
owns_took trees l root number (Some x) own v mate h = own v mate h

owns_put : (trees : List (Option ℕ)) (l : Listed) (v mate : ℕ) → SetsItsOwn trees l → IsOfTaken trees l v → SetsItsOwn trees (put l v mate)
owns_put trees l v mate own of w x h = ⊎_elim (own w x) (λ (e : ◌≡◌ {A = ℕ × ℕ} (w, x) (v, mate)). subst (IsOfTaken trees l) (sym (ap (λ (p : ℕ × ℕ). p.0) e)) of) (among_last (w, x) (v, mate) l.sets h)

pub owns_both : (trees : List (Option ℕ)) (l m : Listed) → SetsItsOwn trees l → SetsItsOwn trees m → SetsItsOwn trees (followed_by m l)
owns_both trees l m own other v mate h = ⊎_elim
    (λ u. let t = other v mate u in (t.0, t.1, t.2, among_left (t.0, t.1) m.taken l.taken t.3))
    (λ u. let t = own v mate u in (t.0, t.1, t.2, among_right (t.0, t.1) m.taken l.taken t.3)) (among_either (v, mate) m.sets l.sets h)

module _ {S : Type 0} (rows cols : ℕ) (opened : List ℕ) (s : State S (Option Known)) (kept : Kept rows cols opened s) where
  pub taker_within : (root : ℕ) → root < cols → root < length (takers_in cols s.words)
  taker_within root lt = subst (λ n. root < n) (sym kept.settles.takes.as_many) lt

  pub vertex_within : (v : ℕ) → v < length (mates_in cols opened) → v < length (mates_in cols s.words)
  vertex_within v lt = subst (λ n. v < n) (sym kept.settles.sets.as_many) lt

  module _ (id : ℕ) (k : Known) (at : get_elem? s.views id ≡ some (Some k)) where
    pub listed_at : get_elem? (map (listed_or nothing) s.views) id ≡ some k.listed
    listed_at = at_map (listed_or nothing) s.views id (Some k) at

    -- a seat that took a vertex's tree and did not set the vertex shares it with no seat that set it
    pub set_by_none : (v : ℕ) → IsOfTaken (trees_in cols opened) k.listed v → ((mate : ℕ) → ¬ Among (v, mate) k.listed.sets) → times v (flat_map sets_of (map (listed_or nothing) s.views)) ≡ 0
    set_by_none v of unset = times_none v (flat_map sets_of (map (listed_or nothing) s.views)) (λ x h. by x (from_flat sets_of (map (listed_or nothing) s.views) (v, x) h))
      where
        by : (x : ℕ) → (i : ℕ) × (l : Listed) × (get_elem? (map (listed_or nothing) s.views) i ≡ some l) × Among (v, x) (sets_of l) → ⊥
        by x (i, l, l_at, h) = ⊎_elim
            (λ (e : i ≡ id). unset x (subst (λ (m : Listed). Among (v, x) m.sets) (some-injective l k.listed (sym l_at ∙ ap (get_elem? (map (listed_or nothing) s.views)) e ∙ listed_at)) h))
            (λ ne.
            let w = from_map (listed_or nothing) s.views i l l_at in
            let t = kept.owners i w.0 w.1 v x (subst (λ (m : Listed). Among (v, x) m.sets) (sym w.2) h) in
            let same : t.0 ≡ of.0 = same_Some _ _ (sym t.2 ∙ of.2) in
            let theirs = times_some t.0 t.1 l.taken (subst (λ (m : Listed). Among (t.0, t.1) m.taken) w.2 t.3) in
            let theirs_too = subst (λ r. 0 < times r l.taken) same theirs in
            let own = times_some of.0 of.1 k.listed.taken of.3 in
            let both = times_two (λ (m : Listed). m.taken) (map (listed_or nothing) s.views) id i k.listed l of.0 listed_at l_at ne in
            let all = kept.settles.takes.once of.0 in
            omega (arith, theirs_too, own, both, all, held_once (held (takers_in cols s.words) of.0)))
            (number_same i id)

    -- the lists after a step account for the words after it
    ruled : (words : List ℕ) (takers mates : List (Option ℕ)) (l : Listed) → takers ≡ takers_in cols words → mates ≡ mates_in cols words → Settles cols (mates_in cols opened) takers mates (all_listed (set (map (listed_or nothing) s.views) id l))
        → Settles cols (mates_in cols opened) (takers_in cols words) (mates_in cols words) (all_listed (map (listed_or nothing) (set s.views id (knowing k l))))
    ruled words takers mates l e f a = subst (λ t. Settles cols (mates_in cols opened) t (mates_in cols words) (all_listed (map (listed_or nothing) (set s.views id (knowing k l))))) e
        (subst (λ m. Settles cols (mates_in cols opened) takers m (all_listed (map (listed_or nothing) (set s.views id (knowing k l))))) f
        (subst (λ ls. Settles cols (mates_in cols opened) takers mates (all_listed ls)) (sym (map-set (listed_or nothing) s.views id (knowing k l))) a))

    owners_step : (l : Listed) → SetsItsOwn (trees_in cols opened) l → (i : ℕ) (v : Option Known) → get_elem? (set s.views id (knowing k l)) i ≡ some v → SetsItsOwn (trees_in cols opened) (listed_or nothing v)
    owners_step l own i v there = ⊎_elim (λ (t : (i ≡ id) × (knowing k l ≡ v)). subst (λ w. SetsItsOwn (trees_in cols opened) (listed_or nothing w)) t.1 own) (λ (t : (i ≢ id) × (get_elem? s.views i ≡ some v)). kept.owners i v t.1) (at_set s.views id i (knowing k l) v there)

    pub kept_take : (root number : ℕ) → root < cols → 1 + number ≤ half → slice_index s.words (1 + root) ≡ 0
        → Kept rows cols opened (with_words s (set s.words (1 + root) (1 + number)) (set s.views id (knowing k (took k.listed root number None))))
    kept_take root number lt le empty =
        let within = taker_within root lt in
        let below = first_below cols s.words root within in
        record {
          spare = get_or-set_other s.words (1 + root) 0 (1 + number) 0 (λ e. omega arith) ∙ kept.spare;
          as_many = length-set s.words (1 + root) (1 + number) ∙ kept.as_many;
          fits = λ r r_lt. ⊎_elim (λ (e : r ≡ root). subst (λ n. n ≤ half) (sym (ap (λ i. get_or (set s.words (1 + root) (1 + number)) (1 + i) 0) e ∙ get_or-set_same s.words (1 + root) (1 + number) 0 below.1)) le) (λ ne. subst (λ n. n ≤ half) (sym (get_or-set_other s.words (1 + root) (1 + r) (1 + number) 0 (λ e. ne (omega arith)))) (kept.fits r r_lt)) (number_same r root);
          trees = rest_first tree_of cols s.words root (1 + number) lt ∙ kept.trees;
          seats = seated_step kept.seats id k at (took k.listed root number None);
          settles = ruled (set s.words (1 + root) (1 + number)) (set (takers_in cols s.words) root (Some number)) (mates_in cols s.words) (took k.listed root number None)
              (ap (set (takers_in cols s.words) root) (sym (value_there number)) ∙ sym (firsts_first cols s.words root (1 + number) lt)) (sym (rest_first mate_of cols s.words root (1 + number) lt))
              (settles_take (map (listed_or nothing) s.views) kept.settles id k.listed listed_at root number within (first_read cols s.words root within ∙ ap value_of empty));
          owners = owners_step (took k.listed root number None) (owns_took (trees_in cols opened) k.listed root number None (kept.owners id (Some k) at));
        }

    -- words stay, and the seat lists more
    kept_listed : (l : Listed) → SetsItsOwn (trees_in cols opened) l → Settles cols (mates_in cols opened) (takers_in cols s.words) (mates_in cols s.words) (all_listed (set (map (listed_or nothing) s.views) id l)) → Kept rows cols opened (with_words s s.words (set s.views id (knowing k l)))
    kept_listed l own a = record {
      spare = kept.spare;
      as_many = kept.as_many;
      fits = kept.fits;
      trees = kept.trees;
      seats = seated_step kept.seats id k at l;
      settles = ruled s.words (takers_in cols s.words) (mates_in cols s.words) l refl refl a;
      owners = owners_step l own;
    }

    pub kept_seen : (root number found : ℕ) → root < cols → slice_index s.words (1 + root) ≡ suc found → Kept rows cols opened (with_words s s.words (set s.views id (knowing k (took k.listed root number (Some found)))))
    kept_seen root number found lt e = kept_listed (took k.listed root number (Some found)) (owns_took (trees_in cols opened) k.listed root number (Some found) (kept.owners id (Some k) at))
        (settles_seen (map (listed_or nothing) s.views) kept.settles id k.listed listed_at root number found (first_read cols s.words root (taker_within root lt) ∙ ap value_of e))

    pub kept_look : (v : ℕ) (mate : Option ℕ) → Kept rows cols opened (with_words s s.words (set s.views id (knowing k (looked k.listed v mate))))
    kept_look v mate = kept_listed (looked k.listed v mate) (kept.owners id (Some k) at) (settles_look (map (listed_or nothing) s.views) kept.settles id k.listed listed_at v mate)

    pub kept_put : (v root number mate : ℕ) → v < length (mates_in cols opened) → held (trees_in cols opened) v ≡ Some root → Among (root, number) k.listed.taken → ((x : ℕ) → ¬ Among (v, x) k.listed.sets) → 1 + mate < half
        → Kept rows cols opened (with_words s (set s.words (1 + cols + v) (vertex_word (Some root) (Some mate))) (set s.views id (knowing k (put k.listed v mate))))
    kept_put v root number mate lt tree taken unset few = record {
      spare = get_or-set_other s.words (1 + cols + v) 0 (vertex_word (Some root) (Some mate)) 0 (λ e. omega arith) ∙ kept.spare;
      as_many = length-set s.words (1 + cols + v) (vertex_word (Some root) (Some mate)) ∙ kept.as_many;
      fits = λ r r_lt. subst (λ n. n ≤ half) (sym (get_or-set_other s.words (1 + cols + v) (1 + r) (vertex_word (Some root) (Some mate)) 0 (λ e. omega arith))) (kept.fits r r_lt);
      trees = rest_rest tree_of cols s.words v (vertex_word (Some root) (Some mate)) ∙ (λ i. set (kept.trees i) v ((tree_coded (Some root) (Some mate) few ∙ sym tree) i)) ∙ set-get_or (trees_in cols opened) v None;
      seats = seated_step kept.seats id k at (put k.listed v mate);
      settles = ruled (set s.words (1 + cols + v) (vertex_word (Some root) (Some mate))) (takers_in cols s.words) (set (mates_in cols s.words) v (Some mate)) (put k.listed v mate)
          (sym (firsts_rest cols s.words v (vertex_word (Some root) (Some mate)))) (ap (set (mates_in cols s.words) v) (sym (mate_coded (Some root) (Some mate) few)) ∙ sym (rest_rest mate_of cols s.words v (vertex_word (Some root) (Some mate))))
          (settles_put (map (listed_or nothing) s.views) kept.settles id k.listed listed_at v mate (vertex_within v lt) (set_by_none v (root, number, tree, taken) unset));
      owners = owners_step (put k.listed v mate) (owns_put (trees_in cols opened) k.listed v mate (kept.owners id (Some k) at) (root, number, tree, taken));
    }

    -- What is found where the seat knows it.

    pub taker_stands : (root number : ℕ) → root < cols → Among (root, number) k.listed.taken ⊎ Among (root, number) k.listed.seen → value_of (slice_index s.words (1 + root)) ≡ Some number
    taker_stands root number lt knew = sym (first_read cols s.words root (taker_within root lt)) ∙ ⊎_elim
        (λ (h : Among (root, number) k.listed.taken). kept.settles.takes.stands root number (among_flat (λ (l : Listed). l.taken) (map (listed_or nothing) s.views) id k.listed (root, number) listed_at h))
        (λ (h : Among (root, number) k.listed.seen). kept.settles.seen root number (among_flat (λ (l : Listed). l.seen) (map (listed_or nothing) s.views) id k.listed (root, number) listed_at h)) knew

    pub mate_stands : (v mate : ℕ) → v < length (mates_in cols opened) → Among (v, mate) k.listed.sets → mate_of (slice_index s.words (1 + cols + v)) ≡ Some mate
    mate_stands v mate lt h = sym (rest_read mate_of cols s.words v (vertex_within v lt)) ∙ kept.settles.sets.stands v mate (among_flat sets_of (map (listed_or nothing) s.views) id k.listed (v, mate) listed_at h)

    pub mate_stays : (v : ℕ) → v < length (mates_in cols opened) → IsOfTaken (trees_in cols opened) k.listed v → ((x : ℕ) → ¬ Among (v, x) k.listed.sets) → mate_of (slice_index s.words (1 + cols + v)) ≡ held (mates_in cols opened) v
    mate_stays v lt of unset = sym (rest_read mate_of cols s.words v (vertex_within v lt)) ∙ kept.settles.sets.stays v (set_by_none v of unset)
