-- The whole report: what is read is spelled so, and what is spelled so is read.
use Rattle.std.proofs.Common.{codes, ◌≡◌, ◌⊎◌, inl, inr, Bool, true, false, ◌||◌, ◌<◌, ◌^◌, eqb, ℕ, cond, List, [], ◌∷◌, ◌++◌, length, Option, Some, None, refl, sym, ap, ap₂, ◌∙◌, subst, arith, append_assoc, eqb-true, IfSome}
use Rattle.std.proofs.lemmas.Grind.{flat_map-append}
use Rattle.std.proofs.lemmas.List.{nil_from_length}
use Rattle.bip_defs.specs.Blocks.{Block}
use Rattle.bip_defs.specs.ConnectedComponents.{Components}
use Rattle.bip_defs.specs.Matrix.{Place}
use Rattle.bip_graph.specs.Answers.{where_asked}
use Rattle.bip_graph.specs.Texts.{Report, Sizes, TextLine, end_line, horizontal_components, line, matrix_line, order_lines, pair_lines, part, rank_line, report_text, spelled, square_lines, text_of, version_line, version_of, vertical_components}
use Rattle.report_reader.specs.Readable.{AreBlocksLike, AreComponentsLike, AreNumberedLike, AreOrdersLike, ArePairsLike, AreSizesLike, IsList, IsReadable}
use Rattle.report_reader.specs.ReportGrammar.{◌>>=◌, Body, body_at, components_at, head_at, one_at, orders_at, pairs_at, part_at, report_at, sizes_at, square_at, tail_at, version_at, word_at}
use Rattle.report_reader.proofs.BlockLists.{IsSquareOf, square_again, square_takes}
use Rattle.report_reader.proofs.ComponentLists.{AreListedOf, asked_again, asked_like, components_take, horizontal_again, horizontal_of, listed, vertical_again, vertical_of}
use Rattle.report_reader.proofs.ListLines.{one_again, one_takes, sizes_again, sizes_take}
use Rattle.report_reader.proofs.Listed.{IsPartOf, part_again, part_takes}
use Rattle.report_reader.proofs.PairLines.{orders_again, orders_take, pairs_again, pairs_take}
use Rattle.report_reader.proofs.Spelled.{bind_some, some_is, where_some, word_takes}

-- some lines, and then others, and then more bytes
join : (a b : List TextLine) (rest : List ℕ) → text_of (a ++ b) ++ rest ≡ text_of a ++ (text_of b ++ rest)
join a b rest = ap (λ (t : List ℕ). t ++ rest) (flat_map-append spelled a b) ∙ append_assoc (text_of a) (text_of b) rest

abbrev last : List ℕ
last = codes "end" ++ 10 ∷ []

-- the text behind the vertical part
abbrev tail_text : Option (List ℕ × List ℕ) → Option (List Place) → List ℕ
tail_text orders pairs = text_of (order_lines orders) ++ (text_of (pair_lines pairs) ++ last)

-- the text between the version and the horizontal part
abbrev head_text : Sizes → ℕ → List ℕ → List ℕ
head_text s k rest = spelled (matrix_line s) ++ (spelled (rank_line k) ++ rest)

abbrev parts_text : Report → List ℕ
parts_text r =
    text_of (part (codes "horizontal") r.horizontal_rows r.horizontal_cols)
    ++ (text_of (horizontal_components r.components)
    ++ (text_of (square_lines r.blocks)
    ++ (text_of (part (codes "vertical") r.vertical_rows r.vertical_cols)
    ++ (text_of (vertical_components r.components) ++ tail_text r.orders r.pairs))))

-- the text of a report, piece by piece
pieces : (r : Report) → report_text r ≡ spelled (version_line r.components) ++ head_text r.sizes r.rank (parts_text r)
pieces r =
    let h = part (codes "horizontal") r.horizontal_rows r.horizontal_cols in
    let hs = horizontal_components r.components in
    let s = square_lines r.blocks in
    let v = part (codes "vertical") r.vertical_rows r.vertical_cols in
    let vs = vertical_components r.components in
    let o = order_lines r.orders in
    let p = pair_lines r.pairs in
    let t = tail_text r.orders r.pairs in
    let parts : text_of (h ++ hs ++ s ++ v ++ vs ++ o ++ p ++ end_line ∷ []) ≡ parts_text r =
    flat_map-append spelled (h ++ hs ++ s ++ v ++ vs ++ o ++ p) (end_line ∷ [])
    ∙ join (h ++ hs ++ s ++ v ++ vs ++ o) p last
    ∙ join (h ++ hs ++ s ++ v ++ vs) o (text_of p ++ last)
    ∙ join (h ++ hs ++ s ++ v) vs t
    ∙ join (h ++ hs ++ s) v (text_of vs ++ t)
    ∙ join (h ++ hs) s (text_of v ++ (text_of vs ++ t))
    ∙ join h hs (text_of s ++ (text_of v ++ (text_of vs ++ t))) in
    ap (λ (u : List ℕ). spelled (version_line r.components) ++ (spelled (matrix_line r.sizes) ++ (spelled (rank_line r.rank) ++ u))) parts

-- ---- the lines before the pairs

record IsVersionOf (bytes : List ℕ) (x : ℕ × List ℕ) : Type 0 where
  pub spells : bytes ≡ spelled (line (codes "btf") (x.0 ∷ [])) ++ x.1
  pub one : (x.0 ≡ 1) ⊎ (x.0 ≡ 2)

version_takes : (bytes : List ℕ) (x : ℕ × List ℕ) → version_at bytes ≡ Some x → IsVersionOf bytes x
unfolding version_at
version_takes bytes x e =
    let v = bind_some (one_at (codes "btf") bytes) (λ version. cond (eqb version.0 1 || eqb version.0 2) (Some version) None) x e in
    let g = where_some (eqb v.0.0 1 || eqb v.0.0 2) (Some v.0) x v.2 in
    subst (IsVersionOf bytes) (some_is v.0 x g.1) (record { spells = (one_takes (codes "btf") bytes v.0 v.1).0; one = by (eqb v.0.0 1) refl g.0 })
  where
    by : {n : ℕ} (b : Bool) → eqb n 1 ≡ b → (b || eqb n 2) ≡ true → (n ≡ 1) ⊎ (n ≡ 2)
    by {n = n} true one f = inl (eqb-true n 1 one)
    by {n = n} false one f = inr (eqb-true n 2 f)

version_again : (o : Option Components) (rest : List ℕ) → version_at (spelled (version_line o) ++ rest) ≡ Some (version_of o, rest)
unfolding version_at
version_again None rest = rw (one_again (codes "btf") 1 rest (omega arith)) refl
version_again (Some c) rest = rw (one_again (codes "btf") 2 rest (omega arith)) refl

version_same : (v : ℕ) (c : Components) → (v ≡ 1) ⊎ (v ≡ 2) → v ≡ version_of (where_asked (eqb v 2) c)
version_same v c (inl e) = subst (λ (n : ℕ). n ≡ version_of (where_asked (eqb n 2) c)) (sym e) refl
version_same v c (inr e) = subst (λ (n : ℕ). n ≡ version_of (where_asked (eqb n 2) c)) (sym e) refl

record IsHeadOf (bytes : List ℕ) (x : (Sizes × ℕ) × List ℕ) : Type 0 where
  pub spells : bytes ≡ head_text x.0.0 x.0.1 x.1
  pub sizes : AreSizesLike x.0.0
  pub rank : x.0.1 < 2 ^ 32

head_takes : (bytes : List ℕ) (x : (Sizes × ℕ) × List ℕ) → head_at bytes ≡ Some x → IsHeadOf bytes x
unfolding head_at
head_takes bytes x e =
    let s = bind_some (sizes_at bytes) (λ sizes. one_at (codes "rank") sizes.1 >>= λ rank. Some ((sizes.0, rank.0), rank.1)) x e in
    let k = bind_some (one_at (codes "rank") s.0.1) (λ rank. Some ((s.0.0, rank.0), rank.1)) x s.2 in
    let sizes = sizes_take bytes s.0 s.1 in
    let rank = one_takes (codes "rank") s.0.1 k.0 k.1 in
    subst (IsHeadOf bytes) (some_is ((s.0.0, k.0.0), k.0.1) x k.2)
    (record {
      spells = sizes.0 ∙ ap (λ (u : List ℕ). spelled (matrix_line s.0.0) ++ u) rank.0;
      sizes = record { rows = sizes.1; cols = sizes.2; entries = sizes.3 };
      rank = rank.1;
    })

head_again : (s : Sizes) (k : ℕ) (rest : List ℕ) → AreSizesLike s → k < 2 ^ 32 → head_at (head_text s k rest) ≡ Some ((s, k), rest)
unfolding head_at
head_again s k rest sizes rank =
    rw (sizes_again s (spelled (rank_line k) ++ rest) sizes.rows sizes.cols sizes.entries, one_again (codes "rank") k rest rank) refl

-- ---- the end

record IsTailOf (bytes : List ℕ) (x : Option (List ℕ × List ℕ) × List Place) : Type 0 where
  pub spells : bytes ≡ tail_text x.0 (Some x.1)
  pub orders : IfSome x.0 AreOrdersLike
  pub pairs : ArePairsLike x.1

tail_takes : (bytes : List ℕ) (x : Option (List ℕ × List ℕ) × List Place) → tail_at bytes ≡ Some x → IsTailOf bytes x
unfolding tail_at
tail_takes bytes x e =
    let o = bind_some (orders_at bytes) (λ orders. pairs_at orders.1 >>= λ pairs. word_at last pairs.1 >>= λ rest. cond (eqb (length rest) 0) (Some (orders.0, pairs.0)) None) x e in
    let p = bind_some (pairs_at o.0.1) (λ pairs. word_at last pairs.1 >>= λ rest. cond (eqb (length rest) 0) (Some (o.0.0, pairs.0)) None) x o.2 in
    let z = bind_some (word_at last p.0.1) (λ rest. cond (eqb (length rest) 0) (Some (o.0.0, p.0.0)) None) x p.2 in
    let g = where_some (eqb (length z.0) 0) (Some (o.0.0, p.0.0)) x z.2 in
    let orders = orders_take bytes o.0 o.1 in
    let pairs = pairs_take o.0.1 p.0 p.1 in
    let nothing : z.0 ≡ [] = nil_from_length z.0 (eqb-true (length z.0) 0 g.0) in
    subst (IsTailOf bytes) (some_is (o.0.0, p.0.0) x g.1)
    (record {
      spells = orders.spells ∙ ap (λ (t : List ℕ). text_of (order_lines o.0.0) ++ t) (pairs.spells ∙ ap (λ (t : List ℕ). text_of (pair_lines (Some p.0.0)) ++ t) (word_takes last p.0.1 z.0 z.1 ∙ ap (λ (t : List ℕ). last ++ t) nothing));
      orders = orders.like;
      pairs = pairs.like;
    })

tail_again : (o : Option (List ℕ × List ℕ)) (ps : List Place) → IfSome o AreOrdersLike → ArePairsLike ps → tail_at (tail_text o (Some ps)) ≡ Some (o, ps)
unfolding tail_at word_at
tail_again o ps orders pairs =
    rw (orders_again o (text_of (pair_lines (Some ps)) ++ last) orders refl, pairs_again ps last pairs) refl

-- ---- all of it

-- the lists that were read, piece by piece
abbrev body_of : List ℕ × List ℕ → List Block → List Block → List ℕ × List ℕ → List Block → Body
body_of horizontal first blocks vertical second = record { horizontal = horizontal; first = first; blocks = blocks; vertical = vertical; second = second }

-- the text of the parts, in version 2 with their components
abbrev body_text : Bool → Body → List ℕ → List ℕ
body_text two b rest =
    text_of (part (codes "horizontal") b.horizontal.0 b.horizontal.1)
    ++ (text_of (listed two (codes "horizontal_components") b.first)
    ++ (text_of (square_lines b.blocks)
    ++ (text_of (part (codes "vertical") b.vertical.0 b.vertical.1)
    ++ (text_of (listed two (codes "vertical_components") b.second) ++ rest))))

record IsBodyOf (version : ℕ) (bytes : List ℕ) (x : Body × List ℕ) : Type 0 where
  pub spells : bytes ≡ body_text (eqb version 2) x.0 x.1
  pub horizontal_rows : IsList x.0.horizontal.0
  pub horizontal_cols : IsList x.0.horizontal.1
  pub first : AreNumberedLike x.0.first
  pub blocks : AreBlocksLike x.0.blocks
  pub vertical_rows : IsList x.0.vertical.0
  pub vertical_cols : IsList x.0.vertical.1
  pub second : AreNumberedLike x.0.second

-- the text of the pieces, one behind another
body_made : (n : ℕ) (bytes : List ℕ) (x : Body × List ℕ) (h : (List ℕ × List ℕ) × List ℕ) (hs b : List Block × List ℕ) (v : (List ℕ × List ℕ) × List ℕ) (vs : List Block × List ℕ)
    → IsPartOf (codes "horizontal") bytes h → AreListedOf n (codes "horizontal_components") h.1 hs → IsSquareOf hs.1 b → IsPartOf (codes "vertical") b.1 v → AreListedOf n (codes "vertical_components") v.1 vs
    → (body_of h.0 hs.0 b.0 v.0 vs.0, vs.1) ≡ x → IsBodyOf n bytes x
body_made n bytes x h hs b v vs horizontal first square vertical second is = subst (IsBodyOf n bytes) is (record {
  spells = horizontal.spells
      ∙ ap (λ (t : List ℕ). text_of (part (codes "horizontal") h.0.0 h.0.1) ++ t) (first.spells
      ∙ ap (λ (t : List ℕ). text_of (listed (eqb n 2) (codes "horizontal_components") hs.0) ++ t) (square.spells
      ∙ ap (λ (t : List ℕ). text_of (square_lines b.0) ++ t) (vertical.spells
      ∙ ap (λ (t : List ℕ). text_of (part (codes "vertical") v.0.0 v.0.1) ++ t) second.spells)));
  horizontal_rows = horizontal.rows;
  horizontal_cols = horizontal.cols;
  first = first.like;
  blocks = square.like;
  vertical_rows = vertical.rows;
  vertical_cols = vertical.cols;
  second = second.like;
})

body_takes : (n : ℕ) (bytes : List ℕ) (x : Body × List ℕ) → body_at n bytes ≡ Some x → IsBodyOf n bytes x
unfolding body_at
body_takes n bytes x e =
    let h = bind_some (part_at (codes "horizontal") bytes) (λ h. components_at n (codes "horizontal_components") h.1 >>= λ hs. square_at hs.1 >>= λ blocks. part_at (codes "vertical") blocks.1 >>= λ v. components_at n (codes "vertical_components") v.1 >>= λ vs. Some (body_of h.0 hs.0 blocks.0 v.0 vs.0, vs.1)) x e in
    let hs = bind_some (components_at n (codes "horizontal_components") h.0.1) (λ hs. square_at hs.1 >>= λ blocks. part_at (codes "vertical") blocks.1 >>= λ v. components_at n (codes "vertical_components") v.1 >>= λ vs. Some (body_of h.0.0 hs.0 blocks.0 v.0 vs.0, vs.1)) x h.2 in
    let b = bind_some (square_at hs.0.1) (λ blocks. part_at (codes "vertical") blocks.1 >>= λ v. components_at n (codes "vertical_components") v.1 >>= λ vs. Some (body_of h.0.0 hs.0.0 blocks.0 v.0 vs.0, vs.1)) x hs.2 in
    let v = bind_some (part_at (codes "vertical") b.0.1) (λ v. components_at n (codes "vertical_components") v.1 >>= λ vs. Some (body_of h.0.0 hs.0.0 b.0.0 v.0 vs.0, vs.1)) x b.2 in
    let vs = bind_some (components_at n (codes "vertical_components") v.0.1) (λ vs. Some (body_of h.0.0 hs.0.0 b.0.0 v.0.0 vs.0, vs.1)) x v.2 in
    body_made n bytes x h.0 hs.0 b.0 v.0 vs.0 (part_takes (codes "horizontal") bytes h.0 h.1) (components_take n (codes "horizontal_components") h.0.1 hs.0 hs.1) (square_takes hs.0.1 b.0 b.1)
    (part_takes (codes "vertical") b.0.1 v.0 v.1) (components_take n (codes "vertical_components") v.0.1 vs.0 vs.1) (some_is (body_of h.0.0 hs.0.0 b.0.0 v.0.0 vs.0.0, vs.0.1) x vs.2)

-- what was read, piece by piece
abbrev made : ℕ → (Sizes × ℕ) → Body → Option (List ℕ × List ℕ) × List Place → Report
made version head body rest = record {
  sizes = head.0;
  rank = head.1;
  components = where_asked (eqb version 2) (record { horizontal = body.first; vertical = body.second });
  horizontal_rows = body.horizontal.0;
  horizontal_cols = body.horizontal.1;
  blocks = body.blocks;
  vertical_rows = body.vertical.0;
  vertical_cols = body.vertical.1;
  orders = rest.0;
  pairs = Some rest.1;
}

abbrev pub IsReportOf : List ℕ → Report → Type 0
IsReportOf bytes r = IsReadable r × (bytes ≡ report_text r)

-- the text of what was read in this version, and of the report
body_as : (two : Bool) (b : Body) (sizes : Sizes) (rank : ℕ) (rest : List ℕ)
    → head_text sizes rank (body_text two b rest) ≡ head_text sizes rank (text_of (part (codes "horizontal") b.horizontal.0 b.horizontal.1)
    ++ (text_of (horizontal_components (where_asked two (record { horizontal = b.first; vertical = b.second })))
    ++ (text_of (square_lines b.blocks)
    ++ (text_of (part (codes "vertical") b.vertical.0 b.vertical.1)
    ++ (text_of (vertical_components (where_asked two (record { horizontal = b.first; vertical = b.second }))) ++ rest)))))
body_as true b sizes rank rest = refl
body_as false b sizes rank rest = refl

report_made : (bytes : List ℕ) (r : Report) (n : ℕ × List ℕ) (a : (Sizes × ℕ) × List ℕ) (b : Body × List ℕ) (z : Option (List ℕ × List ℕ) × List Place)
    → IsVersionOf bytes n → IsHeadOf n.1 a → IsBodyOf n.0 a.1 b → IsTailOf b.1 z → made n.0 a.0 b.0 z ≡ r → IsReportOf bytes r
report_made bytes r n a b z version head body rest is =
    let both : Components = record { horizontal = b.0.first; vertical = b.0.second } in
    let two = eqb n.0 2 in
    subst (IsReportOf bytes) is (
      record {
        sizes = head.sizes;
        rank = head.rank;
        components = asked_like two both body.first body.second;
        horizontal_rows = body.horizontal_rows;
        horizontal_cols = body.horizontal_cols;
        blocks = body.blocks;
        vertical_rows = body.vertical_rows;
        vertical_cols = body.vertical_cols;
        orders = rest.orders;
        pairs = z.1;
        with_pairs = refl;
        are_pairs = rest.pairs;
      },
      version.spells
          ∙ ap (λ (k : ℕ). spelled (line (codes "btf") (k ∷ [])) ++ n.1) (version_same n.0 both version.one)
          ∙ ap (λ (t : List ℕ). spelled (version_line (where_asked two both)) ++ t) (head.spells
          ∙ ap (head_text a.0.0 a.0.1) (body.spells ∙ ap (body_text two b.0) rest.spells)
          ∙ body_as two b.0 a.0.0 a.0.1 (tail_text z.0 (Some z.1)))
          ∙ sym (pieces (made n.0 a.0 b.0 z)),
    )

pub report_takes : (bytes : List ℕ) (r : Report) → report_at bytes ≡ Some r → IsReportOf bytes r
unfolding report_at
report_takes bytes r e =
    let n = bind_some (version_at bytes) (λ version. head_at version.1 >>= λ head. body_at version.0 head.1 >>= λ body. tail_at body.1 >>= λ rest. Some (made version.0 head.0 body.0 rest)) r e in
    let a = bind_some (head_at n.0.1) (λ head. body_at n.0.0 head.1 >>= λ body. tail_at body.1 >>= λ rest. Some (made n.0.0 head.0 body.0 rest)) r n.2 in
    let b = bind_some (body_at n.0.0 a.0.1) (λ body. tail_at body.1 >>= λ rest. Some (made n.0.0 a.0.0 body.0 rest)) r a.2 in
    let z = bind_some (tail_at b.0.1) (λ rest. Some (made n.0.0 a.0.0 b.0.0 rest)) r b.2 in
    report_made bytes r n.0 a.0 b.0 z.0 (version_takes bytes n.0 n.1) (head_takes n.0.1 a.0 a.1) (body_takes n.0.0 a.0.1 b.0 b.1) (tail_takes b.0.1 z.0 z.1) (some_is (made n.0.0 a.0.0 b.0.0 z.0) r z.2)

abbrev with_these : Report → Option Components → Option (List Place) → Report
with_these r components pairs = record {
  sizes = r.sizes;
  rank = r.rank;
  components = components;
  horizontal_rows = r.horizontal_rows;
  horizontal_cols = r.horizontal_cols;
  blocks = r.blocks;
  vertical_rows = r.vertical_rows;
  vertical_cols = r.vertical_cols;
  orders = r.orders;
  pairs = pairs;
}

body_again : (o : Option Components) (r : Report) (rest : List ℕ) → IsReadable r → IfSome o AreComponentsLike
    → body_at (version_of o) (text_of (part (codes "horizontal") r.horizontal_rows r.horizontal_cols)
    ++ (text_of (horizontal_components o)
    ++ (text_of (square_lines r.blocks)
    ++ (text_of (part (codes "vertical") r.vertical_rows r.vertical_cols)
    ++ (text_of (vertical_components o) ++ rest)))))
    ≡ Some (body_of (r.horizontal_rows, r.horizontal_cols) (horizontal_of o) r.blocks (r.vertical_rows, r.vertical_cols) (vertical_of o), rest)
unfolding body_at
body_again o r rest is like =
    let vs = text_of (vertical_components o) ++ rest in
    let v = text_of (part (codes "vertical") r.vertical_rows r.vertical_cols) ++ vs in
    let s = text_of (square_lines r.blocks) ++ v in
    rw (
      part_again (codes "horizontal") r.horizontal_rows r.horizontal_cols (text_of (horizontal_components o) ++ s) is.horizontal_rows is.horizontal_cols,
      horizontal_again o s like,
      square_again r.blocks v is.blocks,
      part_again (codes "vertical") r.vertical_rows r.vertical_cols vs is.vertical_rows is.vertical_cols,
      vertical_again o rest like,
    ) refl

again : (r : Report) (ps : List Place) → IsReadable r → ArePairsLike ps → r.pairs ≡ Some ps → report_at (spelled (version_line r.components) ++ head_text r.sizes r.rank (parts_text r)) ≡ Some r
unfolding report_at
again r ps is pairs with_pairs =
    let z = tail_text r.orders r.pairs in
    let t : tail_at z ≡ Some (r.orders, ps) = ap (λ (o : Option (List Place)). tail_at (tail_text r.orders o)) with_pairs ∙ tail_again r.orders ps is.orders pairs in
    rw (
      version_again r.components (head_text r.sizes r.rank (parts_text r)),
      head_again r.sizes r.rank (parts_text r) is.sizes is.rank,
      body_again r.components r z is is.components,
      t,
    )
    (ap₂ (λ (cs : Option Components) (o : Option (List Place)). Some (with_these r cs o)) (asked_again r.components) (sym with_pairs))

pub report_again : (r : Report) → IsReadable r → report_at (report_text r) ≡ Some r
report_again r is = ap report_at (pieces r) ∙ again r is.pairs is is.are_pairs is.with_pairs

-- a report is not read as nothing
pub read_not_none : (bytes : List ℕ) (r : Report) → IsReadable r → bytes ≡ report_text r → report_at bytes ≡ None → ⊥
read_not_none bytes r is spelled none = some_not_none r (sym (report_again r is) ∙ sym (ap report_at spelled) ∙ none)
  where
    some_not_none : (x : Report) → Some x ≡ None → ⊥
    some_not_none x e = absurd cc

-- a report has one spelling, and a spelling is of one report
pub spells_one : (r s : Report) → IsReadable r → IsReadable s → report_text r ≡ report_text s → r ≡ s
spells_one r s r_is s_is same = some_is r s (sym (report_again r r_is) ∙ ap report_at same ∙ report_again s s_is)
