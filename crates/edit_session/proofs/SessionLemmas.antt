-- What an edit leaves of a maximum matching and of the cover beside it.
use Rattle.std.proofs.Common.{◌≡◌, ◌≢◌, ◌⊎◌, ◌↔◌, ◌∙◌, ℕ, suc, ◌+◌, ◌<◌, ◌≤◌, Bool, true, false, true≢false, List, Option, Some, None, Ok, Err, ◌∷◌, length, nat_eq, refl, sym, ap, subst, inl, inr, ⊎_elim, arith, eq-eqb, eqb-true, IsTrue}
use Rattle.std.specs.Option.{is_some}
use Rattle.std.specs.Prelude.{IfNone, OnErr, OnOk, Result, is_ok}
use Rattle.std.proofs.lemmas.List.{length-set}
use Rattle.bip_defs.specs.EditedMatrix.{with_place, without_place}
use Rattle.bip_defs.specs.Lists.{Among, AreDistinct, IsMarked, IsRising, Lists}
use Rattle.bip_defs.specs.Matching.{IsMatching, cols_of, rows_of}
use Rattle.bip_defs.specs.Matrix.{IsEntry, Matrix, Place, cols, column, entry_count, transpose}
use Rattle.bip_defs.specs.Paths.{IsParted}
use Rattle.bip_defs.proofs.EditLemmas.{kept_is_maximum, kept_with, one_more, with_again, without_count, without_goes_back, without_lists, without_none, without_place_back, without_place_over, without_or_there}
use Rattle.bip_defs.proofs.Full.{few_below, matching_few}
use Rattle.bip_defs.proofs.Sets.{col_among, col_pair, number_among, number_same, one_col, one_row, rising_distinct}
use Rattle.bip_defs.proofs.Transposed.{transpose_is}
use Rattle.bip_graph.specs.Matching.{IsMatchingOf, IsMaximumOf, IsPairing, Pairing}
use Rattle.vertex_cover.specs.Back.{IsCoverButRow}
use Rattle.vertex_cover.specs.Covers.{Decides, HasCover, HasMarkedMate, IsCover, IsCoverBut}
use Rattle.sp_pattern.specs.Stored.{IsPattern}
use Rattle.edit_session.specs.Sessions.{IsKept, IsNewEntry, IsSaturating, MatchedMatrix, matched}
use Rattle.edit_session.proofs.TransposeLemmas.{transpose_count, transpose_counted, with_transpose, without_transpose}

-- Pairs.

pub are_mates : (m : List Place) (s r c : ℕ) → AreDistinct (cols_of m) → Among (s, c) m → IsTrue (nat_eq s r) ↔ Among (r, c) m
are_mates m s r c differ h = (λ t. subst (λ x. Among (x, c) m) (eqb-true s r t) h, λ k. eq-eqb s r (one_row m differ s r c h k))

pub no_mates : (m : List Place) (r c : ℕ) → ¬ Among c (cols_of m) → IsTrue false ↔ Among (r, c) m
no_mates m r c out = (λ (t : false ≡ true). absurd (true≢false (sym t)), λ h. absurd (out (col_among r c m h)))

pub none_found : {X : Type 0} (P : Type 0) (o : Option X) → is_some o ≡ false → IfNone o P → P
none_found P None e h = h
none_found P (Some x) e h = absurd (true≢false e)

-- An answer that is never refused.

pub on_ok : {X E : Type 0} (r : Result X E) (P : Type 0) → P → OnOk r P
on_ok (Ok x) P p = p
on_ok (Err e) P p = tt

pub no_err : {X E : Type 0} (r : Result X E) (P : Type 0) → IsTrue (is_ok r) → OnErr r P
no_err (Ok x) P t = tt
no_err (Err e) P t = absurd (true≢false (sym t))

-- What an edit leaves of a matching.

-- setting an entry leaves the numbers of rows and columns
pub set_saturating : (a b : Matrix) (m : List Place) (p : Place) → b ≡ with_place a p → IsSaturating a m ↔ IsSaturating b m
set_saturating a b m p e = (λ f. subst (λ z. IsSaturating z m) (sym e) (⊎_elim (λ r. inl r) (λ c. inr (c ∙ sym same)) f), λ f. ⊎_elim (λ r. inl r) (λ c. inr (c ∙ same)) (subst (λ z. IsSaturating z m) e f))
  where
    same : cols (with_place a p) ≡ cols a
    same = length-set a.columns p.1 _

-- where not each column is matched, there are more columns than pairs
pub more_columns : (a : Matrix) (m : List Place) → IsMatching a m → length m ≢ cols a → length m < cols a
more_columns a m k ne = let few = matching_few a m k in omega (arith, few, ne)

paired_matching : (a : Matrix) (m n : List Place) (p : Place) → IsMatching a m → IsEntry a p.0 p.1 → ((q : Place) → Among q n ↔ ((q ≡ p) ⊎ Among q m)) → AreDistinct (rows_of n) → IsRising (cols_of n) → IsMatching a n
paired_matching a m n p k e added rows rising = record {
  entries = λ r c h. ⊎_elim (λ (f : (r, c) ≡ p). subst (λ (q : Place). IsEntry a q.0 q.1) (sym f) e) (λ g. k.entries r c g) ((added (r, c)).0 h);
  rows_differ = rows;
  cols_differ = rising_distinct (cols_of n) rising;
}

-- The cover.

width : (b : Matrix) (p : Place) → cols (without_place b p) ≡ cols b
width b p = length-set b.columns p.1 _

-- the entry's row and column have become a pair
covers_paired : (b : Matrix) (p : Place) (m n : List Place) (marks : List Bool) → IsCover (without_place b p) m marks → ((q : Place) → Among q n ↔ ((q ≡ p) ⊎ Among q m)) → IsCover b n marks
covers_paired b p m n marks k added = record {
  long = k.long ∙ width b p;
  closed = λ r c on e. ⊎_elim (λ (s : (r, c) ≡ p). new r c s on) (λ old. kept r (k.closed r c on old)) (without_or_there b p r c e);
  unmatched = λ c lt out. k.unmatched c (let w = width b p in omega (arith, w, lt)) (λ h. let (r, pair) = col_pair c m h in out (col_among r c n ((added (r, c)).1 (inr pair))));
}
  where
    new : (r c : ℕ) → (r, c) ≡ p → IsMarked marks c → HasMarkedMate n marks r
    new r c s on = (c, (added (r, c)).1 (inl s), on)

    kept : (r : ℕ) → HasMarkedMate m marks r → HasMarkedMate n marks r
    kept r (d, pair, h) = (d, (added (r, d)).1 (inr pair), h)

covers_left : (a : Matrix) (p : Place) (m : List Place) (marks : List Bool) → IsCover a m marks → IsCover (without_place a p) m marks
covers_left a p m marks k = record {
  long = k.long ∙ sym (width a p);
  closed = λ r c on e. k.closed r c on (without_place_over a p r c e).0;
  unmatched = λ c lt free. k.unmatched c (let w = width a p in omega (arith, w, lt)) free;
}

pub left_long : (a : Matrix) (p : Place) (marks : List Bool) → length marks ≡ cols a → length marks ≡ cols (without_place a p)
left_long a p marks long = long ∙ sym (width a p)

-- but for the column of the entry that is set, and but for its row
pub set_but : (b : Matrix) (p : Place) (m : List Place) (marks : List Bool) → IsCover (without_place b p) m marks → IsCoverBut p.1 b m marks × IsCoverButRow p.0 b m marks
set_but b p m marks k = (
  record {
    long = k.long ∙ width b p;
    closed = λ r c ne on e. ⊎_elim (λ (s : (r, c) ≡ p). absurd (ne (ap (λ (q : Place). q.1) s))) (λ old. k.closed r c on old) (without_or_there b p r c e);
    unmatched = λ c lt ne free. k.unmatched c (let w = width b p in omega (arith, w, lt)) free;
  },
  record {
    long = k.long ∙ width b p;
    closed = λ r c ne on e. ⊎_elim (λ (s : (r, c) ≡ p). absurd (ne (ap (λ (q : Place). q.0) s))) (λ old. k.closed r c on old) (without_or_there b p r c e);
    unmatched = λ c lt free. k.unmatched c (let w = width b p in omega (arith, w, lt)) free;
  },
)

-- but for the column of the pair that is cleared, where that is not marked
pub cleared_but : (a : Matrix) (p : Place) (m rest : List Place) (marks : List Bool) → IsMatching a m → Among p m → ¬ IsMarked marks p.1 → IsParted p m rest → IsCover a m marks → IsCoverBut p.1 (without_place a p) rest marks
cleared_but a p m rest marks l pair off parted k = record {
  long = k.long ∙ sym (width a p);
  closed = λ r c ne on e. let (d, mate, h) = k.closed r c on (without_place_over a p r c e).0 in (d, (parted (r, d)).1 (mate, λ (s : r ≡ p.0). off (subst (IsMarked marks) (one_col m l.rows_differ p.0 d p.1 (subst (λ x. Among {X = Place} (x, d) m) s mate) pair) h)), h);
  unmatched = λ c lt ne free. k.unmatched c (let w = width a p in omega (arith, w, lt)) (λ h. let (r, mate) = col_pair c m h in free (col_among r c rest ((parted (r, c)).1 (mate, λ (s : r ≡ p.0). ne (one_col m l.rows_differ p.0 c p.1 (subst (λ x. Among {X = Place} (x, c) m) s mate) pair)))));
}

-- but for its row, where the column is marked
pub cleared_but_row : (a : Matrix) (p : Place) (m rest : List Place) (marks : List Bool) → IsMatching a m → Among p m → IsMarked marks p.1 → IsParted p m rest → IsCover a m marks → IsCoverButRow p.0 (without_place a p) rest marks
cleared_but_row a p m rest marks l pair on parted k = record {
  long = k.long ∙ sym (width a p);
  closed = λ r c ne h e. let (d, mate, g) = k.closed r c h (without_place_over a p r c e).0 in (d, (parted (r, d)).1 (mate, ne), g);
  unmatched = λ c lt free. ⊎_elim (λ h. old c free h) (λ out. k.unmatched c (let w = width a p in omega (arith, w, lt)) out) (number_among c (cols_of m));
}
  where
    -- its mate was in the row
    old : (c : ℕ) → ¬ Among c (cols_of rest) → Among c (cols_of m) → IsMarked marks c
    old c free h = let (r, mate) = col_pair c m h in ⊎_elim
        (λ (e : r ≡ p.0). subst (IsMarked marks) (one_col m l.rows_differ p.0 p.1 c pair (subst (λ x. Among {X = Place} (x, c) m) e mate)) on)
        (λ ne. absurd (free (col_among r c rest ((parted (r, c)).1 (mate, ne)))))
        (number_same r p.0)

-- What a session keeps.

pub shown_kept : (a b : Matrix) (m : Pairing) (marks : List Bool) → HasCover a m marks → b ≡ transpose a → IsKept a b m marks
shown_kept a b m marks k t = record { maximum = k.maximum; cover = k.cover; rows = t }

-- An entry that is set.

pub set_again : (a : Matrix) (m : Pairing) (marks : List Bool) (p : Place) (now : MatchedMatrix) → matched a m marks ≡ now → IsPattern a → IsEntry a p.0 p.1 → now.matrix ≡ with_place now.matrix p
set_again a m marks p now view k e = subst (λ (w : MatchedMatrix). w.matrix ≡ with_place w.matrix p) view (sym (with_again a p (k.columns p.1) e))

pub room_left : (a : Matrix) (r c : ℕ) → IsPattern a → r < a.rows → ¬ IsEntry a r c → length (column a c) < a.rows
room_left a r c k row ne = few_below a.rows (r ∷ column a c) (λ h. ne (row, h), rising_distinct (column a c) (k.columns c).rising) (λ x h. ⊎_elim (λ (e : x ≡ r). rw e row) (λ g. ((k.columns c).sound x g).0) h)

pub turned_room_left : (a b : Matrix) (r c : ℕ) → b ≡ transpose a → IsPattern a → c < cols a → ¬ IsEntry a r c → length (column b r) < b.rows
turned_room_left a b r c t k col ne = room_left b c r (subst IsPattern (sym t) (transpose_counted a (entry_count a) k refl).pattern) (let e = ap (λ (z : Matrix). z.rows) t in omega (arith, e, col)) (λ e. ne ((transpose_is a).back r c (subst (λ z. IsEntry z c r) t e)))

pub set_matching : (a : Matrix) (p : Place) (m : Pairing) → IsMatchingOf a m → IsMatchingOf (with_place a p) m
set_matching a p m k = record { rows = k.rows; cols = rw length-set k.cols; matching = kept_with a p m.pairs k.matching }

-- without the entry that is new the matrix is the one from before
pub set_back : (a b : Matrix) (p : Place) → IsPattern a → ¬ IsEntry a p.0 p.1 → p.1 < cols a → b ≡ with_place a p → a ≡ without_place b p
set_back a b p k new lt e = sym (ap (λ z. without_place z p) e ∙ without_goes_back a p (k.columns p.1) new lt)

pub set_rows : (a a2 b b2 : Matrix) (p : Place) → a2 ≡ with_place a p → b ≡ transpose a → b2 ≡ with_place b (p.1, p.0) → p.0 < a.rows → p.1 < cols a → b2 ≡ transpose a2
set_rows a a2 b b2 p e t f row col = f ∙ ap (λ z. with_place z (p.1, p.0)) t ∙ with_transpose a p row col ∙ ap transpose (sym e)

-- the entry's row and column have become a pair, one more than is a maximum without it
pub paired_kept : (a b : Matrix) (p : Place) (m n : Pairing) (marks : List Bool) → IsNewEntry p a b m marks → ((q : Place) → Among q n.pairs ↔ ((q ≡ p) ⊎ Among q m.pairs)) → length n.pairs ≡ suc (length m.pairs) → (n.rows ≡ m.rows) × (n.cols ≡ m.cols) → IsPairing n → IsKept a b n marks
paired_kept a b p m n marks new added size sizes pairing = record {
  maximum = record {
    matching = record { rows = sizes.0 ∙ new.matching.rows; cols = sizes.1 ∙ new.matching.cols; matching = matching };
    maximum = record { matching = matching; longest = λ o l. let most = one_more (without_place a p) a p m.pairs o (λ r c e. without_or_there a p r c e) new.maximum l in omega (arith, most, size) };
  };
  cover = covers_paired a p m.pairs n.pairs marks new.cover added;
  rows = new.rows;
}
  where
    matching : IsMatching a n.pairs
    matching = paired_matching a m.pairs n.pairs p new.matching.matching new.entry added pairing.rows_differ pairing.cols_rise

-- An entry that is cleared.

pub clear_none : (a : Matrix) (m : Pairing) (marks : List Bool) (p : Place) (now : MatchedMatrix) → matched a m marks ≡ now → IsPattern a → ¬ IsEntry a p.0 p.1 → now.matrix ≡ without_place now.matrix p
clear_none a m marks p now view k ne = subst (λ (w : MatchedMatrix). w.matrix ≡ without_place w.matrix p) view (sym (without_none a p (k.columns p.1) ne))

kept_maximum : (a : Matrix) (p : Place) (m : Pairing) → IsMaximumOf a m → ¬ Among p m.pairs → IsMaximumOf (without_place a p) m
kept_maximum a p m k nh = let max = kept_is_maximum a p m.pairs k.maximum nh in record {
  matching = record { rows = k.matching.rows; cols = rw length-set k.matching.cols; matching = max.matching };
  maximum = max;
}

pub parted_matching : (a : Matrix) (p : Place) (m n : Pairing) → IsMatchingOf a m → IsParted p m.pairs n.pairs → (n.rows ≡ m.rows) × (n.cols ≡ m.cols) → IsPairing n → IsMatchingOf (without_place a p) n
parted_matching a p m n k parted sizes pairing = record {
  rows = sizes.0 ∙ k.rows;
  cols = rw length-set (sizes.1 ∙ k.cols);
  matching = record {
    entries = λ r c h. let (g, ne) = (parted (r, c)).0 h in without_place_back a p r c (k.matching.entries r c g) (λ f. ne (ap (λ (q : Place). q.0) f));
    rows_differ = pairing.rows_differ;
    cols_differ = rising_distinct (cols_of n.pairs) pairing.cols_rise;
  };
}

pub cleared_rows : (a a2 b b2 : Matrix) (p : Place) → a2 ≡ without_place a p → b ≡ transpose a → b2 ≡ without_place b (p.1, p.0) → b2 ≡ transpose a2
cleared_rows a a2 b b2 p e t f = f ∙ ap (λ z. without_place z (p.1, p.0)) t ∙ without_transpose a p ∙ ap transpose (sym e)

pub cleared_count : (a a2 b2 : Matrix) (p : Place) → a2 ≡ without_place a p → IsPattern a → b2 ≡ transpose a2 → entry_count b2 ≡ entry_count a2
cleared_count a a2 b2 p e k t = ap entry_count t ∙ transpose_count a2 (subst (λ (z : Matrix). (c : ℕ) → Lists (λ r. IsEntry z r c) (column z c)) (sym e) (λ c. without_lists a p c k.columns))

pub left_kept : (a b a2 b2 : Matrix) (p : Place) (m : Pairing) (marks : List Bool) → IsKept a b m marks → a2 ≡ without_place a p → b2 ≡ without_place b (p.1, p.0) → ¬ Among p m.pairs → IsKept a2 b2 m marks
left_kept a b a2 b2 p m marks k e f nh = record {
  maximum = subst (λ z. IsMaximumOf z m) (sym e) (kept_maximum a p m k.maximum nh);
  cover = subst (λ z. IsCover z m.pairs marks) (sym e) (covers_left a p m.pairs marks k.cover);
  rows = cleared_rows a a2 b b2 p e k.rows f;
}

-- the search from the other pairs has decided
pub parted_kept : (a b a2 b2 : Matrix) (p : Place) (m parted n : Pairing) (marks marks1 marks2 : List Bool) (old new : ℕ) → IsKept a b m marks → marks1 ≡ marks → a2 ≡ without_place a p → b2 ≡ without_place b (p.1, p.0) → length m.pairs ≡ suc (length parted.pairs) → Decides a2 parted n marks1 marks2 old new → IsKept a2 b2 n marks2
parted_kept a b a2 b2 p m parted n marks marks1 marks2 old new k same e f longer d = shown_kept a2 b2 n marks2 (d.beside m.pairs left longer) (cleared_rows a a2 b b2 p e k.rows f)
  where
    left : IsCover a2 m.pairs marks1
    left = subst (IsCover a2 m.pairs) (sym same) (subst (λ z. IsCover z m.pairs marks) (sym e) (covers_left a p m.pairs marks k.cover))

pub parted_unmatched : (a : Matrix) (p : Place) (m rest : List Place) → IsMatching a m → length m ≡ suc (length rest) → length rest < cols (without_place a p)
parted_unmatched a p m rest k e = let few = matching_few a m k in let w = width a p in omega (arith, few, w, e)

pub cleared_steps : (a b : Matrix) (m : Pairing) (marks : List Bool) (p : Place) (now : MatchedMatrix) (before after : ℕ) → matched a m marks ≡ now → b ≡ without_place a p → IsPattern a → IsEntry a p.0 p.1 → after ≤ before + (cols b + entry_count b) → after ≤ before + (cols now.matrix + entry_count now.matrix)
cleared_steps a b m marks p now before after view e k entry le = subst (λ (w : MatchedMatrix). after ≤ before + (cols w.matrix + entry_count w.matrix)) view
    (let count = without_count a p (k.columns p.1) entry in
    let width : cols (without_place a p) ≡ cols a = length-set a.columns p.1 _ in
    let bound = subst (λ z. after ≤ before + (cols z + entry_count z)) e le in
    omega (arith, count, width, bound))
