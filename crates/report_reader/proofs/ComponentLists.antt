-- Components, one after the other.
use Rattle.std.proofs.Common.{codes, ◌≡◌, ◌<◌, ◌≤◌, ◌+◌, ◌-◌, ◌^◌, ◌&&◌, eqb, ℕ, zero, suc, Bool, true, false, cond, List, [], ◌∷◌, ◌++◌, length, Option, Some, None, IfSome, refl, sym, ap, ◌∙◌, subst, append-nil, append_assoc, arith, eqb-true, eq-eqb}
use Rattle.std.specs.List.{AllByRecursion}
use Rattle.std.proofs.lemmas.Grind.{flat_map-append}
use Rattle.bip_defs.specs.Blocks.{Block}
use Rattle.bip_defs.specs.ConnectedComponents.{Components}
use Rattle.bip_graph.specs.Answers.{where_asked}
use Rattle.bip_graph.specs.Texts.{TextLine, component_lines, horizontal_components, line, lists, numbered_components, spelled, text_of, version_of, vertical_components}
use Rattle.report_reader.specs.declared.stop.Stop.{Stop}
use Rattle.report_reader.specs.Readable.{AreComponentsLike, AreNumberedLike, IsComponentLike}
use Rattle.report_reader.specs.ReportGrammar.{◌>>=◌, Stops, component_at, components_at, counted_at, lists_at, numbered_at, one_at, three_at}
use Rattle.report_reader.proofs.Prefixes.{no_prefix, regroup, stops_so, with_prefix}
use Rattle.report_reader.proofs.ListLines.{one_again, one_takes, three_again, three_takes}
use Rattle.report_reader.proofs.Listed.{line_first, lists_again, lists_take, not_both, of_lists, some_there}
use Rattle.report_reader.proofs.Spelled.{bind_some, some_is, unless_some, where_some}

-- ---- one component

abbrev component_line : ℕ → List ℕ → List ℕ → TextLine
component_line number rows cols = line (codes "component") (number ∷ length rows ∷ length cols ∷ [])

pub record IsComponentOf (number : ℕ) (bytes : List ℕ) (x : (List ℕ × List ℕ) × List ℕ) : Type 0 where
  pub spells : bytes ≡ text_of (component_line number x.0.0 x.0.1 ∷ lists x.0.0 x.0.1) ++ x.1
  pub like : IsComponentLike (record { rows = x.0.0; cols = x.0.1 })

line_of : (number m n i j k : ℕ) (rest : List ℕ) → number ≡ i → m ≡ j → n ≡ k → spelled (line (codes "component") (number ∷ m ∷ n ∷ [])) ++ rest ≡ spelled (line (codes "component") (i ∷ j ∷ k ∷ [])) ++ rest
line_of number m n i j k rest a b c =
    ap (λ (u : ℕ). spelled (line (codes "component") (u ∷ m ∷ n ∷ [])) ++ rest) a
    ∙ ap (λ (u : ℕ). spelled (line (codes "component") (i ∷ u ∷ n ∷ [])) ++ rest) b
    ∙ ap (λ (u : ℕ). spelled (line (codes "component") (i ∷ j ∷ u ∷ [])) ++ rest) c

pub component_takes : (number : ℕ) (bytes : List ℕ) (x : (List ℕ × List ℕ) × List ℕ) → component_at number bytes ≡ Some x → IsComponentOf number bytes x
unfolding component_at
component_takes number bytes x e =
    let word : List ℕ = codes "component" in
    let h = bind_some (three_at word bytes) (λ head. cond (eqb head.0.0 number) (cond (eqb head.0.1 0 && eqb head.0.2 0) None (lists_at head.0.1 head.0.2 head.1)) None) x e in
    let head = three_takes word bytes h.0 h.1 in
    let g = where_some (eqb h.0.0.0 number) (cond (eqb h.0.0.1 0 && eqb h.0.0.2 0) None (lists_at h.0.0.1 h.0.0.2 h.0.1)) x h.2 in
    let u = unless_some (eqb h.0.0.1 0 && eqb h.0.0.2 0) (lists_at h.0.0.1 h.0.0.2 h.0.1) x g.1 in
    let l = lists_take h.0.0.1 h.0.0.2 h.0.1 x head.2 head.3 u.1 in
    let some = some_there h.0.0.1 h.0.0.2 u.0 in
    record {
      spells = head.0 ∙ line_of h.0.0.0 h.0.0.1 h.0.0.2 number (length x.0.0) (length x.0.1) h.0.1 (eqb-true h.0.0.0 number g.0) (sym l.rows_long) (sym l.cols_long)
          ∙ ap (λ (t : List ℕ). spelled (component_line number x.0.0 x.0.1) ++ t) l.spells
          ∙ sym (line_first (component_line number x.0.0 x.0.1) (lists x.0.0 x.0.1) x.1);
      like = record { rows = l.rows; cols = l.cols; some = omega (arith, some, l.rows_long, l.cols_long) };
    }

component_again : (number : ℕ) (b : Block) (rest : List ℕ) → IsComponentLike b → number < 2 ^ 32
    → component_at number (text_of (component_line number b.rows b.cols ∷ lists b.rows b.cols) ++ rest) ≡ Some ((b.rows, b.cols), rest)
unfolding component_at
component_again number b rest like small =
    ap (component_at number) (line_first (component_line number b.rows b.cols) (lists b.rows b.cols) rest)
    ∙ rw (
      three_again (codes "component") number (length b.rows) (length b.cols) (text_of (lists b.rows b.cols) ++ rest) small like.rows.few like.cols.few,
      eq-eqb number number refl,
      not_both (length b.rows) (length b.cols) (λ none. let some = like.some in omega (arith, some, none)),
    ) (lists_again b.rows b.cols rest like.rows like.cols)

-- ---- in a loop

-- So many components were read. What is read from here on, behind them, is what is read of all.
abbrev pub HaveNumbered : List Block → ℕ → ℕ → List ℕ → Option (List Block × List ℕ) → Type 0
HaveNumbered read count at rest total = with_prefix read (numbered_at (count - at) (at + 1) rest) ≡ total

pub numbered_begin : (count : ℕ) (bytes : List ℕ) → HaveNumbered [] count 0 bytes (numbered_at count 1 bytes)
numbered_begin count bytes = no_prefix (numbered_at (count - 0) 1 bytes) ∙ ap (λ (k : ℕ). numbered_at k 1 bytes) (omega arith)

next : (read : List Block) (count at : ℕ) (bytes : List ℕ) (b : (List ℕ × List ℕ) × List ℕ) → at < count → component_at (at + 1) bytes ≡ Some b
    → with_prefix read (numbered_at (count - at) (at + 1) bytes) ≡ with_prefix (read ++ of_lists b.0 ∷ []) (numbered_at (count - (at + 1)) (at + 1 + 1) b.1)
unfolding numbered_at
next read count at bytes b inside one =
    let k : count - at ≡ suc (count - (at + 1)) = omega (arith, inside) in
    rw (k, one) (regroup read (of_lists b.0) (numbered_at (count - (at + 1)) (suc (at + 1)) b.1)
    ∙ ap (λ (n : ℕ). with_prefix (read ++ of_lists b.0 ∷ []) (numbered_at (count - (at + 1)) n b.1)) (omega arith))

pub numbered_more : (read : List Block) (count at : ℕ) (bytes : List ℕ) (b : (List ℕ × List ℕ) × List ℕ) (total : Option (List Block × List ℕ))
    → HaveNumbered read count at bytes total → at < count → component_at (at + 1) bytes ≡ Some b → HaveNumbered (read ++ of_lists b.0 ∷ []) count (at + 1) b.1 total
numbered_more read count at bytes b total so_far inside one = sym (next read count at bytes b inside one) ∙ so_far

none_next : (read : List Block) (count at : ℕ) (bytes : List ℕ) → at < count → component_at (at + 1) bytes ≡ None → with_prefix read (numbered_at (count - at) (at + 1) bytes) ≡ None
unfolding numbered_at
none_next read count at bytes inside one =
    let k : count - at ≡ suc (count - (at + 1)) = omega (arith, inside) in
    rw (k, one) refl

pub numbered_stop : (e : Stop) (read : List Block) (count at : ℕ) (bytes : List ℕ) (total : Option (List Block × List ℕ))
    → HaveNumbered read count at bytes total → at < count → Stops e (component_at (at + 1) bytes) → Stops e total
numbered_stop e read count at bytes total so_far inside =
    stops_so e (component_at (at + 1) bytes) total (λ none. sym so_far ∙ none_next read count at bytes inside none)

pub numbered_done : (read : List Block) (count at : ℕ) (bytes : List ℕ) (total : Option (List Block × List ℕ))
    → HaveNumbered read count at bytes total → count ≤ at → total ≡ Some (read, bytes)
unfolding numbered_at
numbered_done read count at bytes total so_far ended =
    let k : count - at ≡ 0 = omega (arith, ended) in
    let one : with_prefix read (numbered_at (count - at) (at + 1) bytes) ≡ Some (read, bytes) = rw k (ap (λ (bs : List Block). Some (bs, bytes)) (append-nil read)) in
    sym so_far ∙ one

-- ---- as a text

record AreNumberedOf (count number : ℕ) (bytes : List ℕ) (x : List Block × List ℕ) : Type 0 where
  pub spells : bytes ≡ text_of (component_lines number x.0) ++ x.1
  pub like : AllByRecursion IsComponentLike x.0
  pub many : length x.0 ≡ count

components_before : (number : ℕ) (b : Block) (bs : List Block) (rest : List ℕ)
    → text_of (component_lines number (b ∷ bs)) ++ rest ≡ text_of (component_line number b.rows b.cols ∷ lists b.rows b.cols) ++ (text_of (component_lines (suc number) bs) ++ rest)
components_before number b bs rest =
    ap (λ (t : List ℕ). t ++ rest) (flat_map-append spelled (component_line number b.rows b.cols ∷ lists b.rows b.cols) (component_lines (suc number) bs))
    ∙ append_assoc (text_of (component_line number b.rows b.cols ∷ lists b.rows b.cols)) (text_of (component_lines (suc number) bs)) rest

numbered_take : (count number : ℕ) (bytes : List ℕ) (x : List Block × List ℕ) → numbered_at count number bytes ≡ Some x → AreNumberedOf count number bytes x
unfolding numbered_at
numbered_take zero number bytes x e = subst (AreNumberedOf zero number bytes) (some_is ([], bytes) x e) (record { spells = refl; like = tt; many = refl })
numbered_take (suc count) number bytes x e =
    let b = bind_some (component_at number bytes) (λ b. numbered_at count (suc number) b.1 >>= λ others. Some (of_lists b.0 ∷ others.0, others.1)) x e in
    let o = bind_some (numbered_at count (suc number) b.0.1) (λ others. Some (of_lists b.0.0 ∷ others.0, others.1)) x b.2 in
    let one = component_takes number bytes b.0 b.1 in
    let rest = numbered_take count (suc number) b.0.1 o.0 o.1 in
    subst (AreNumberedOf (suc count) number bytes) (some_is (of_lists b.0.0 ∷ o.0.0, o.0.1) x o.2)
    (record {
      spells = one.spells ∙ ap (λ (t : List ℕ). text_of (component_line number b.0.0.0 b.0.0.1 ∷ lists b.0.0.0 b.0.0.1) ++ t) rest.spells ∙ sym (components_before number (of_lists b.0.0) o.0.0 o.0.1);
      like = (one.like, rest.like);
      many = ap suc rest.many;
    })

numbered_again : (number : ℕ) (bs : List Block) (rest : List ℕ) → AllByRecursion IsComponentLike bs → number + length bs ≤ 2 ^ 32
    → numbered_at (length bs) number (text_of (component_lines number bs) ++ rest) ≡ Some (bs, rest)
unfolding numbered_at
numbered_again number [] rest like few = refl
numbered_again number (b ∷ bs) rest like few =
    ap (numbered_at (suc (length bs)) number) (components_before number b bs rest)
    ∙ rw (
      component_again number b (text_of (component_lines (suc number) bs) ++ rest) like.0 (omega (arith, few)),
      numbered_again (suc number) bs rest like.1 (omega (arith, few)),
    ) refl

record AreCountedOf (word bytes : List ℕ) (x : List Block × List ℕ) : Type 0 where
  pub spells : bytes ≡ text_of (numbered_components word x.0) ++ x.1
  pub like : AreNumberedLike x.0

counted_take : (word bytes : List ℕ) (x : List Block × List ℕ) → counted_at word bytes ≡ Some x → AreCountedOf word bytes x
unfolding counted_at
counted_take word bytes x e =
    let h = bind_some (one_at word bytes) (λ count. numbered_at count.0 1 count.1) x e in
    let head = one_takes word bytes h.0 h.1 in
    let all = numbered_take h.0.0 1 h.0.1 x h.2 in
    record {
      spells = head.0 ∙ ap (λ (n : ℕ). spelled (line word (n ∷ [])) ++ h.0.1) (sym all.many)
          ∙ ap (λ (t : List ℕ). spelled (line word (length x.0 ∷ [])) ++ t) all.spells ∙ sym (line_first (line word (length x.0 ∷ [])) (component_lines 1 x.0) x.1);
      like = record { each = all.like; few = omega (arith, all.many, head.1) };
    }

counted_again : (word : List ℕ) (bs : List Block) (rest : List ℕ) → AreNumberedLike bs → counted_at word (text_of (numbered_components word bs) ++ rest) ≡ Some (bs, rest)
unfolding counted_at
counted_again word bs rest like =
    ap (counted_at word) (line_first (line word (length bs ∷ [])) (component_lines 1 bs) rest)
    ∙ rw (one_again word (length bs) (text_of (component_lines 1 bs) ++ rest) like.few) (numbered_again 1 bs rest like.each (omega (arith, like.few)))

-- ---- in a version

-- the lines of a part's components, if there are any
abbrev pub listed : Bool → List ℕ → List Block → List TextLine
listed true word bs = numbered_components word bs
listed false word bs = []

pub record AreListedOf (version : ℕ) (word bytes : List ℕ) (x : List Block × List ℕ) : Type 0 where
  pub spells : bytes ≡ text_of (listed (eqb version 2) word x.0) ++ x.1
  pub like : AreNumberedLike x.0

pub components_take : (version : ℕ) (word bytes : List ℕ) (x : List Block × List ℕ) → components_at version word bytes ≡ Some x → AreListedOf version word bytes x
unfolding components_at
components_take version word bytes x e = by (eqb version 2) refl e
  where
    by : (b : Bool) → eqb version 2 ≡ b → cond b (counted_at word bytes) (Some ([], bytes)) ≡ Some x → AreListedOf version word bytes x
    by true two f = let all = counted_take word bytes x f in record { spells = all.spells ∙ ap (λ (b : Bool). text_of (listed b word x.0) ++ x.1) (sym two); like = all.like }
    by false two f = let same = some_is ([], bytes) x f in record {
      spells = ap (λ (y : List Block × List ℕ). y.1) same ∙ ap (λ (b : Bool). text_of (listed b word x.0) ++ x.1) (sym two);
      like = subst (λ (y : List Block × List ℕ). AreNumberedLike y.0) same (record { each = tt; few = omega arith });
    }

pub asked_like : (b : Bool) (c : Components) → AreNumberedLike c.horizontal → AreNumberedLike c.vertical → IfSome (where_asked b c) AreComponentsLike
asked_like true c h v = record { horizontal = h; vertical = v }
asked_like false c h v = tt

-- the lists of components that may be left out
abbrev pub horizontal_of : Option Components → List Block
horizontal_of None = []
horizontal_of (Some c) = c.horizontal

abbrev pub vertical_of : Option Components → List Block
vertical_of None = []
vertical_of (Some c) = c.vertical

pub horizontal_again : (o : Option Components) (rest : List ℕ) → IfSome o AreComponentsLike → components_at (version_of o) (codes "horizontal_components") (text_of (horizontal_components o) ++ rest) ≡ Some (horizontal_of o, rest)
unfolding components_at
horizontal_again None rest like = refl
horizontal_again (Some c) rest like = counted_again (codes "horizontal_components") c.horizontal rest like.horizontal

pub vertical_again : (o : Option Components) (rest : List ℕ) → IfSome o AreComponentsLike → components_at (version_of o) (codes "vertical_components") (text_of (vertical_components o) ++ rest) ≡ Some (vertical_of o, rest)
unfolding components_at
vertical_again None rest like = refl
vertical_again (Some c) rest like = counted_again (codes "vertical_components") c.vertical rest like.vertical

pub asked_again : (o : Option Components) → where_asked (eqb (version_of o) 2) (record { horizontal = horizontal_of o; vertical = vertical_of o }) ≡ o
asked_again None = refl
asked_again (Some c) = refl
