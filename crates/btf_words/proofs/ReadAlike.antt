-- Arguments that take the same values read words alike: what a parse makes of words does not depend on how the parser
-- of an argument holds the values that it takes.
use Rattle.std.proofs.Common.{◌≡◌, ◌==◌, ◌&&◌, ◌++◌, ◌∙◌, ℕ, Bool, true, false, not, zero, suc, List, [], ◌∷◌, Option, Some, None, drop, length, refl, sym, ap, ap₂, cond, nat_lt, is_some, if◌then◌else◌}
use Rattle.std.specs.Prelude.{⊤, encode_utf8, find, fold, slice_get, option_map}
use Rattle.std.specs.List.{list_any}
use Rattle.std.specs.Option.{option_map_or}
use Rattle.std.specs.Str.{bytes_eq, chars}
use Rattle.clap.specs.Lexer.{long_of, short_of}
use Rattle.clap.specs.Words.{Row, Rule, Shape, Text}
use Rattle.clap.specs.Facts.{explicit_source}
use Rattle.clap.specs.Kinds.{Kinds, check_kinds, or_else}
use Rattle.clap.specs.Walk.{Held, Outcome, Step, Waiting, Walk, after_flag, after_step, arg_by_id, arg_by_index, arg_by_long, arg_by_short, bundle_met, bundle_step, finished, flag_met, long_met, long_or_other, most_values, nothing_held, option_met, option_word, plain_word, pushed, reacted, rows_after, settled, settled_rows, short_met, short_or_plain, started, subcommand_met, subcommand_or_other, to_positional, used, used_by_id, walk, walk_from, walked, walked_from, with_default, word_met}
use Rattle.clap.specs.Walk.{Names as Labels}
use Rattle.clap.specs.Walk as w
use Rattle.clap.specs.Simple.{rows_at}
use Rattle.clap.specs.Takes.{is_given}
use Rattle.clap.specs.declared.error.kind.ErrorKind.TheVariants as kind
use Rattle.clap.specs.Faults.{bundle_fault, bundle_step_fault, check_fault, defaults_fault, flag_word_fault, flags_fault, level_fault, long_fault, option_fault, other_fault, positional_fault, react_fault, settle_fault, short_fault, step_fault, stray_fault, turn_fault, use_fault, walk_fault}

-- two arguments that read words alike
pub record Alike (a b : Rule) : Type 0 where
  pub id : a.id ≡ b.id
  pub most : most_values a ≡ most_values b
  pub used : (values : List Text) (rows : List Row) → used a values rows ≡ used b values rows
  pub fault : (again : Bool) (values : List Text) (rows : List Row) → use_fault again a values rows ≡ use_fault again b values rows

pub itself : (a : Rule) → Alike a a
itself a = record { id = refl; most = refl; used = λ values rows. refl; fault = λ again values rows. refl }

-- both are there and are related, or none is there
abbrev pub Both : {X : Type 0} → (X → X → Type 0) → Option X → Option X → Type 0
Both P None None = ⊤
Both P (Some a) (Some b) = P a b
Both P None (Some b) = ⊥
Both P (Some a) None = ⊥

-- place by place, the members are related and pass the tests alike
abbrev pub InStep : {X : Type 0} → (X → X → Type 0) → (X → Bool) → (X → Bool) → List X → List X → Type 0
InStep P p q [] [] = ⊤
InStep P p q (x ∷ xs) (y ∷ ys) = P x y × (p x ≡ q y) × InStep P p q xs ys
InStep P p q [] (y ∷ ys) = ⊥
InStep P p q (x ∷ xs) [] = ⊥

pub first_of_both : {X : Type 0} (P : X → X → Type 0) (p q : X → Bool) (xs ys : List X) → InStep P p q xs ys → Both P (find p xs) (find q ys)
first_of_both P p q [] [] h = tt
first_of_both P p q (x ∷ xs) (y ∷ ys) h = by (p x) (q y) h.1 (first_of_both P p q xs ys h.2)
  where
    by : (b e : Bool) → b ≡ e → Both P (find p xs) (find q ys) → Both P (cond b (Some x) (find p xs)) (cond e (Some y) (find q ys))
    by true true same rest = h.0
    by false false same rest = rest
    by true false same rest = cc
    by false true same rest = cc
first_of_both P p q [] (y ∷ ys) h = absurd h
first_of_both P p q (x ∷ xs) [] h = absurd h

abbrev pub AlikeFound : Option Rule → Option Rule → Type 0
AlikeFound = Both Alike

-- two lists of options that read words alike
pub record AlikeRules (c d : List Rule) : Type 0 where
  pub by_id : (id : Text) → AlikeFound (arg_by_id c id) (arg_by_id d id)
  pub by_long : (name : Text) → AlikeFound (arg_by_long c name) (arg_by_long d name)
  pub no_short_c : (x : ℕ) → arg_by_short c x ≡ None
  pub no_short_d : (x : ℕ) → arg_by_short d x ≡ None
  pub no_place_c : (i : ℕ) → arg_by_index c i ≡ None
  pub no_place_d : (i : ℕ) → arg_by_index d i ≡ None
  pub ended : (rows : List Row) → fold with_default rows c ≡ fold with_default rows d
  pub defaults : (rows : List Row) → defaults_fault rows c ≡ defaults_fault rows d
  pub wanted : (rows : List Row) → list_any (λ a. a.required && not (is_given a.id rows)) c ≡ list_any (λ a. a.required && not (is_given a.id rows)) d

either : {X : Type 0} (s t : Bool) (x y u v : X) → s ≡ t → x ≡ y → u ≡ v → (if s then x else u) ≡ (if t then y else v)
either {X} s t x y u v test first second = ap (λ (b : Bool). if b then x else u) test ∙ ap₂ (λ (p q : X). if t then p else q) first second

module _ (c d : List Rule) (r : AlikeRules c d) where
  -- ---- the walk

  used_found : (o q : Option Rule) → AlikeFound o q → (values : List Text) (rows : List Row) → used_by_id o values rows ≡ used_by_id q values rows
  used_found None None h values rows = refl
  used_found (Some a) (Some b) h values rows = h.used values rows
  used_found None (Some b) h values rows = absurd h
  used_found (Some a) None h values rows = absurd h

  rows_settled : (p : Option (Text × List Text)) (rows : List Row) → settled_rows c p rows ≡ settled_rows d p rows
  rows_settled None rows = refl
  rows_settled (Some p) rows = used_found (arg_by_id c p.0) (arg_by_id d p.0) (r.by_id p.0) p.1 rows

  settles : (h : Held) → settled c h ≡ settled d h
  settles h = ap (λ (rows : List Row). record h { rows = rows; pending = None }) (rows_settled h.pending h.rows)

  reacts : (a b : Rule) → Alike a b → (values : List Text) (h : Held) → reacted c a values h ≡ reacted d b values h
  reacts a b x values h =
      ap (λ (rows : List Row). record h { rows = rows; pending = None })
      (x.used values (settled c h).rows ∙ ap (λ (s : Held). used b values s.rows) (settles h))

  option_meets : (a b : Rule) → Alike a b → (v : Option Text) (h : Held) → option_met c a v h ≡ option_met d b v h
  option_meets a b x (Some v) h = ap (λ (s : Held). (s, w.done)) (reacts a b x (v ∷ []) h)
  option_meets a b x None h = ap₂ (λ (s : Held) (id : Text). (record s { pending = Some (id, []) }, w.waits id)) (settles h) x.id

  flag_meets : (a b : Rule) → Alike a b → (v : Option Text) (h : Held) → flag_met c a v h ≡ flag_met d b v h
  flag_meets a b x (Some v) h = refl
  flag_meets a b x None h = ap (λ (s : Held). (s, w.done)) (reacts a b x [] h)

  long_meets : (o q : Option Rule) → AlikeFound o q → (v : Option Text) (h : Held) → long_met c o v h ≡ long_met d q v h
  long_meets None None x v h = refl
  long_meets (Some a) (Some b) x v h = either _ _ _ _ _ _ (ap (λ (n : ℕ). not (n == 0)) x.most) (option_meets a b x v h) (flag_meets a b x v h)
  long_meets None (Some b) x v h = absurd x
  long_meets (Some a) None x v h = absurd x

  -- no option is short, so a bundle of them is refused at its first
  bundle_steps : (k : ℕ)
      → ((flags : Text) (skip : ℕ) (so_far : Outcome) (h : Held) → bundle_met c k flags skip so_far h ≡ bundle_met d k flags skip so_far h)
      → (x : Option ℕ) (flags : Text) (skip : ℕ) (so_far : Outcome) (h : Held)
      → bundle_step c x flags skip so_far h (bundle_met c k) ≡ bundle_step d x flags skip so_far h (bundle_met d k)
  bundle_steps k next None flags skip so_far h = refl
  bundle_steps k next (Some x) flags zero so_far h =
      let rest : Text = drop (length (encode_utf8 x)) flags in
      ap (λ (o : Option Rule). short_met c o rest h (bundle_met c k rest 0 w.done)) (r.no_short_c x)
      ∙ sym (ap (λ (o : Option Rule). short_met d o rest h (bundle_met d k rest 0 w.done)) (r.no_short_d x))
  bundle_steps k next (Some x) flags (suc skip) so_far h = next (drop (length (encode_utf8 x)) flags) skip so_far h

  bundles : (k : ℕ) (flags : Text) (skip : ℕ) (so_far : Outcome) (h : Held) → bundle_met c k flags skip so_far h ≡ bundle_met d k flags skip so_far h
  unfolding bundle_met
  bundles zero flags skip so_far h = refl
  bundles (suc k) flags skip so_far h = bundle_steps k (bundles k) (slice_get (chars flags) 0) flags skip so_far h

  option_words : (o q : Option Rule) → AlikeFound o q → (id word : Text) (h : Held) → option_word o id word h ≡ option_word q id word h
  option_words None None x id word h = refl
  option_words (Some a) (Some b) x id word h =
      let p : Text × List Text = started id h.pending in
      ap₂ (λ (i : Text) (n : ℕ). (pushed id word h, if nat_lt (if bytes_eq p.0 i then length (p.1 ++ word ∷ []) else 0) n then w.option id else w.idle)) x.id x.most
  option_words None (Some b) x id word h = absurd x
  option_words (Some a) None x id word h = absurd x

  plain_words : (waiting : Waiting) (word : Text) (h : Held) → plain_word c waiting word h ≡ plain_word d waiting word h
  plain_words w.idle word h = refl
  plain_words (w.option id) word h =
      ap (λ (p : Held × Waiting). (p.0, w.next p.1)) (option_words (arg_by_id c id) (arg_by_id d id) (r.by_id id) id word h)
  plain_words w.positional word h = refl

  after_flags : (waiting : Waiting) (word : Text) (h : Held) (o : Outcome) → after_flag c waiting word h o ≡ after_flag d waiting word h o
  after_flags waiting word h w.done = refl
  after_flags waiting word h (w.waits id) = refl
  after_flags waiting word h w.plain = plain_words waiting word h
  after_flags waiting word h w.refused = plain_words waiting word h

  flags_met : (waiting : Waiting) (word : Text) (m n : Held × Outcome) → m ≡ n → after_flag c waiting word m.0 m.1 ≡ after_flag d waiting word n.0 n.1
  flags_met waiting word m n same = ap (λ (x : Held × Outcome). after_flag c waiting word x.0 x.1) same ∙ after_flags waiting word n.0 n.1

  short_or_plain_words : (waiting : Waiting) (word : Text) (flags : Option Text) (h : Held) → short_or_plain c waiting word flags h ≡ short_or_plain d waiting word flags h
  short_or_plain_words waiting word (Some flags) h = flags_met waiting word _ _ (bundles (length flags) flags h.skip w.plain (record h { skip = 0 }))
  short_or_plain_words waiting word None h = plain_words waiting word h

  long_or_other_words : (waiting : Waiting) (word : Text) (p : Option (Text × Option Text)) (h : Held)
      → long_or_other c waiting word p h ≡ long_or_other d waiting word p h
  long_or_other_words waiting word (Some p) h = flags_met waiting word _ _ (long_meets (arg_by_long c p.0) (arg_by_long d p.0) (r.by_long p.0) p.1 h)
  long_or_other_words waiting word None h = short_or_plain_words waiting word (short_of word) h

  other_words : (name : Option Text) (waiting : Waiting) (position : ℕ) (word : Text) (h : Held)
      → subcommand_or_other c name waiting position word h ≡ subcommand_or_other d name waiting position word h
  other_words (Some name) waiting position word h = refl
  other_words None waiting position word h =
      ap (λ (x : Held × Step). if bytes_eq word (45 ∷ 45 ∷ []) then (h, w.trailing position) else x) (long_or_other_words waiting word (long_of word) h)

  words_met : (names : Labels) (is_trailing : Bool) (waiting : Waiting) (position : ℕ) (word : Text) (h : Held)
      → word_met c names is_trailing waiting position word h ≡ word_met d names is_trailing waiting position word h
  words_met names is_trailing waiting position word h =
      ap (λ (x : Held × Step). if is_trailing then (h, w.value) else x) (other_words (subcommand_met names waiting word) waiting position word h)

  after_steps : (word : Text) (k : Walk) (h : Held) (s : Step) → after_step c word k h s ≡ after_step d word k h s
  after_steps word k h (w.next waiting) = refl
  after_steps word k h (w.trailing position) = refl
  after_steps word k h (w.subcommand name) = refl
  after_steps word k h w.value =
      ap (λ (o : Option Rule). to_positional c o word k h) (r.no_place_c k.position)
      ∙ sym (ap (λ (o : Option Rule). to_positional d o word k h) (r.no_place_d k.position))

  walks_on : (names : Labels) (p : Option (Text × List Text)) (k : Walk) (word : Text) → walked_from c names p k word ≡ walked_from d names p k word
  walks_on names (Some p) k word = refl
  walks_on names None k word =
      let met : Held × Step = word_met d names k.is_trailing k.waiting k.position word k.held in
      ap (λ (m : Held × Step). after_step c word k m.0 m.1) (words_met names k.is_trailing k.waiting k.position word k.held)
      ∙ after_steps word k met.0 met.1

  one_more : (names : Labels) (k : Walk) (word : Text) → walked c names k word ≡ walked d names k word
  unfolding walked
  one_more names k word = walks_on names k.stopped k word

  walks_from : (names : Labels) (k : Walk) (words : List Text) → fold (walked c names) k words ≡ fold (walked d names) k words
  walks_from names k [] = refl
  walks_from names k (x ∷ xs) = ap (λ (l : Walk). fold (walked c names) l xs) (one_more names k x) ∙ walks_from names (walked d names k x) xs

  walks : (names : Labels) (h : Held) (words : List Text) → walk c names h words ≡ walk d names h words
  walks names h words = walks_from names (walk_from h) words

  finishes : (h : Held) → finished c h ≡ finished d h
  finishes h = ap (λ (s : Held). fold with_default s.rows c) (settles h) ∙ r.ended (settled d h).rows

  pub same_rows : (words : List Text) → rows_after c [] words ≡ rows_after d [] words
  same_rows words = finishes (walk c [] nothing_held words).held ∙ ap (λ (k : Walk). finished d k.held) (walks [] nothing_held words)

  -- ---- faults

  found_fault : (again : Bool) (o q : Option Rule) → AlikeFound o q → (values : List Text) (rows : List Row)
      → option_map_or (λ a. use_fault again a values rows) o [] ≡ option_map_or (λ a. use_fault again a values rows) q []
  found_fault again None None x values rows = refl
  found_fault again (Some a) (Some b) x values rows = x.fault again values rows
  found_fault again None (Some b) x values rows = absurd x
  found_fault again (Some a) None x values rows = absurd x

  pending_fault : (again : Bool) (p : Option (Text × List Text)) (rows : List Row)
      → option_map_or (λ (p : Text × List Text). option_map_or (λ a. use_fault again a p.1 rows) (arg_by_id c p.0) []) p []
      ≡ option_map_or (λ (p : Text × List Text). option_map_or (λ a. use_fault again a p.1 rows) (arg_by_id d p.0) []) p []
  pending_fault again None rows = refl
  pending_fault again (Some p) rows = found_fault again (arg_by_id c p.0) (arg_by_id d p.0) (r.by_id p.0) p.1 rows

  settle_faults : (again : Bool) (h : Held) → settle_fault c again h ≡ settle_fault d again h
  settle_faults again h = pending_fault again h.pending h.rows

  react_faults : (again : Bool) (a b : Rule) → Alike a b → (values : List Text) (h : Held) → react_fault c again a values h ≡ react_fault d again b values h
  react_faults again a b x values h =
      ap₂ or_else (settle_faults again h)
      (x.fault again values (settled c h).rows ∙ ap (λ (s : Held). use_fault again b values s.rows) (settles h))

  option_faults : (again : Bool) (a b : Rule) → Alike a b → (v : Option Text) (h : Held) → option_fault c again a v h ≡ option_fault d again b v h
  option_faults again a b x (Some v) h = react_faults again a b x (v ∷ []) h
  option_faults again a b x None h = settle_faults again h

  long_faults : (again : Bool) (o q : Option Rule) → AlikeFound o q → (v : Option Text) (h : Held) → long_fault c again o v h ≡ long_fault d again q v h
  long_faults again None None x v h = refl
  long_faults again (Some a) (Some b) x v h =
      either _ _ _ _ _ _ (ap (λ (n : ℕ). not (n == 0)) x.most) (option_faults again a b x v h)
      (ap (λ (ks : Kinds). if is_some v then kind.TooManyValues ∷ [] else ks) (react_faults again a b x [] h))
  long_faults again None (Some b) x v h = absurd x
  long_faults again (Some a) None x v h = absurd x

  bundle_step_faults : (again : Bool) (k : ℕ)
      → ((flags : Text) (skip : ℕ) (h : Held) → flags_fault c again k flags skip h ≡ flags_fault d again k flags skip h)
      → (x : Option ℕ) (flags : Text) (skip : ℕ) (h : Held)
      → bundle_step_fault c again x flags skip h (flags_fault c again k) ≡ bundle_step_fault d again x flags skip h (flags_fault d again k)
  bundle_step_faults again k next None flags skip h = refl
  bundle_step_faults again k next (Some x) flags zero h =
      let rest : Text = drop (length (encode_utf8 x)) flags in
      ap (λ (o : Option Rule). short_fault c again o rest h (flags_fault c again k rest 0)) (r.no_short_c x)
      ∙ sym (ap (λ (o : Option Rule). short_fault d again o rest h (flags_fault d again k rest 0)) (r.no_short_d x))
  bundle_step_faults again k next (Some x) flags (suc skip) h = next (drop (length (encode_utf8 x)) flags) skip h

  flags_faults : (again : Bool) (k : ℕ) (flags : Text) (skip : ℕ) (h : Held) → flags_fault c again k flags skip h ≡ flags_fault d again k flags skip h
  unfolding flags_fault
  flags_faults again zero flags skip h = refl
  flags_faults again (suc k) flags skip h = bundle_step_faults again k (flags_faults again k) (slice_get (chars flags) 0) flags skip h

  short_faults : (again : Bool) (flags : Option Text) (h : Held)
      → option_map_or (λ flags. bundle_fault c again flags h) flags [] ≡ option_map_or (λ flags. bundle_fault d again flags h) flags []
  short_faults again None h = refl
  short_faults again (Some flags) h = flags_faults again (length flags) flags h.skip (record h { skip = 0 })

  flag_word_faults : (again : Bool) (p : Option (Text × Option Text)) (word : Text) (h : Held)
      → flag_word_fault c again p word h ≡ flag_word_fault d again p word h
  flag_word_faults again (Some p) word h = long_faults again (arg_by_long c p.0) (arg_by_long d p.0) (r.by_long p.0) p.1 h
  flag_word_faults again None word h = short_faults again (short_of word) h

  module _ (s : Shape) where
    abbrev over : List Rule → Shape
    over rules = record s { rules = rules }

    other_faults : (name : Option Text) (word : Text) (h : Held) → other_fault (over c) name word h ≡ other_fault (over d) name word h
    other_faults (Some name) word h = refl
    other_faults None word h =
        ap (λ (ks : Kinds). if bytes_eq word (45 ∷ 45 ∷ []) then [] else ks) (flag_word_faults s.args_override_self (long_of word) word h)

    step_faults : (position : ℕ) (h : Held) (k : Step) → step_fault (over c) position h k ≡ step_fault (over d) position h k
    step_faults position h (w.next waiting) = refl
    step_faults position h (w.trailing p) = refl
    step_faults position h (w.subcommand name) = refl
    step_faults position h w.value =
        ap (λ (o : Option Rule). option_map_or (λ a. positional_fault c s.args_override_self a h) o (stray_fault s)) (r.no_place_c position)
        ∙ sym (ap (λ (o : Option Rule). option_map_or (λ a. positional_fault d s.args_override_self a h) o (stray_fault s)) (r.no_place_d position))

    turn_faults : (names : Labels) (k : Walk) (word : Text) → turn_fault (over c) names k word ≡ turn_fault (over d) names k word
    turn_faults names k word =
        let met : Held × Step = word_met d names k.is_trailing k.waiting k.position word k.held in
        ap (λ (ks : Kinds). if is_some k.stopped then [] else ks)
        (ap₂ or_else
        (ap (λ (ks : Kinds). if k.is_trailing then [] else ks) (other_faults (subcommand_met names k.waiting word) word k.held))
        (ap (λ (m : Held × Step). step_fault (over c) k.position m.0 m.1) (words_met names k.is_trailing k.waiting k.position word k.held)
        ∙ step_faults k.position met.0 met.1))

    walk_faults : (names : Labels) (k : Walk) (words : List Text) → walk_fault (over c) names k words ≡ walk_fault (over d) names k words
    unfolding walk_fault
    walk_faults names k [] = refl
    walk_faults names k (x ∷ xs) =
        ap₂ or_else (turn_faults names k x)
        (ap (λ (l : Walk). walk_fault (over c) names l xs) (one_more names k x) ∙ walk_faults names (walked d names k x) xs)

    check_faults : (rows : List Row) (has : Bool) → check_fault (over c) rows has ≡ check_fault (over d) rows has
    check_faults rows has =
        ap (λ (b : Bool). check_kinds
        (not has && (s.arg_required_else_help && not (list_any (λ (q : Row). explicit_source q.source) rows)))
        (not has && s.subcommand_required) (not (s.subcommand_negates_reqs && has) && b)) (r.wanted rows)

    pub same_fault : (words : List Text) (has : Bool) (below : Kinds)
        → level_fault (over c) [] nothing_held words has below ≡ level_fault (over d) [] nothing_held words has below
    same_fault words has below =
        let last : Held = (walk c [] nothing_held words).held in
        let rest : (l : Held) → Kinds = λ l. or_else below (or_else (settle_fault d s.args_override_self l)
        (or_else (defaults_fault (settled d l).rows d) (check_fault (over d) (finished d l) has))) in
        ap₂ or_else (walk_faults [] (walk_from nothing_held) words)
        (ap (or_else below)
        (ap₂ or_else (settle_faults s.args_override_self last)
        (ap₂ or_else (ap (λ (l : Held). defaults_fault l.rows c) (settles last) ∙ r.defaults (settled d last).rows)
        (ap (λ (rows : List Row). check_fault (over c) rows has) (finishes last) ∙ check_faults (finished d last) has)))
        ∙ ap (λ (k : Walk). rest k.held) (walks [] nothing_held words))

-- ---- commands

-- two commands by which words are read alike
pub record AlikeShapes (s t : Shape) : Type 0 where
  pub rows : (words : List Text) → rows_at s words ≡ rows_at t words
  pub fault : (words : List Text) → level_fault s [] nothing_held words false [] ≡ level_fault t [] nothing_held words false []

pub itself_shape : (s : Shape) → AlikeShapes s s
itself_shape s = record { rows = λ words. refl; fault = λ words. refl }

pub over_rules : (s : Shape) (c d : List Rule) → AlikeRules c d → AlikeShapes (record s { rules = c }) (record s { rules = d })
over_rules s c d r = record {
  rows = λ words. ap (λ (rows : List Row). (s.name, rows)) (same_rows c d r words);
  fault = λ words. same_fault c d r s words false [];
}

pub rows_found : (o q : Option Shape) → Both AlikeShapes o q → (words : List Text)
    → option_map (λ (s : Shape). rows_at s words) o ≡ option_map (λ (s : Shape). rows_at s words) q
rows_found None None h words = refl
rows_found (Some s) (Some t) h words = ap Some (h.rows words)
rows_found None (Some t) h words = absurd h
rows_found (Some s) None h words = absurd h

pub fault_found : (o q : Option Shape) → Both AlikeShapes o q → (words : List Text)
    → option_map_or (λ (s : Shape). level_fault s [] nothing_held words false []) o [] ≡ option_map_or (λ (s : Shape). level_fault s [] nothing_held words false []) q []
fault_found None None h words = refl
fault_found (Some s) (Some t) h words = h.fault words
fault_found None (Some t) h words = absurd h
fault_found (Some s) None h words = absurd h
