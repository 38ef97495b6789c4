-- Where the names of the engines lie counts for nothing.
use Rattle.std.proofs.Common.{◌≡◌, ◌∙◌, ◌||◌, ◌++◌, Bool, false, List, [], ◌∷◌, Option, Some, None, length, not, ◌&&◌, refl, sym, ap, ap₂, if◌then◌else◌, codes, is_some}
use Rattle.std.specs.Prelude.{find, slice_get, unwrap_or}
use Rattle.std.specs.List.{list_any}
use Rattle.std.specs.Str.{bytes_eq}
use Rattle.clap.specs.Words.{App, Row, Rule, Shape, Text, built, fault_of, subcommand_of}
use Rattle.clap.specs.Values.{same_text}
use Rattle.clap.specs.ValueTests.{accepts}
use Rattle.clap.specs.Kinds.{Kinds, or_else, range_kinds, values_kinds}
use Rattle.clap.specs.Walk.{answers_to, has_long, has_row, nothing_held, stop_after, used, with_default}
use Rattle.clap.specs.Simple.{entered, filled, label_of, names_of}
use Rattle.clap.specs.Faults.{default_fault, defaults_fault, entered_fault, level_fault, repeat_fault, use_fault}
use Rattle.clap.specs.declared.builder.value_parser.ValueParser.TheVariants as vp
use Rattle.clap.specs.declared.error.kind.ErrorKind.TheVariants as kind
use Rattle.clap.proofs.WalkLemmas.{list_any-map}
use Rattle.btf_words.specs.Table.{Names, btf_over, default_engine, drop_zeros_rule, engine_names, engine_rule, least_rule, order_rule, pairs_rule, rank_command, report_rule, seed_rule, size_rule, texts_of, workers_rule}
use Rattle.btf_words.specs.Words.{ReadsAlike}
use Rattle.btf_words.proofs.ReadAlike.{Alike, AlikeRules, AlikeShapes, Both, fault_found, first_of_both, itself, itself_shape, over_rules, rows_found}

module _ (n m : Names) (same : texts_of n ≡ texts_of m) where
  accepted : (text : Text) → accepts false (vp.Names n) text ≡ accepts false (vp.Names m) text
  accepted text =
      list_any-map (λ t. same_text false t text) (λ name. name.now) n.now
      ∙ (ap (list_any (λ t. same_text false t text)) same ∙ sym (list_any-map (λ t. same_text false t text) (λ name. name.now) m.now))

  values_fault : (values : List Text) → values_kinds false (vp.Names n) values ≡ values_kinds false (vp.Names m) values
  values_fault [] = refl
  values_fault (v ∷ vs) = ap₂ or_else (ap (λ (b : Bool). if b then [] else kind.InvalidValue ∷ []) (accepted v)) (values_fault vs)

  -- ---- the option

  abbrev option : Names → Rule
  option names = filled (engine_rule names)

  option_used : (values : List Text) (rows : List Row) → used (option n) values rows ≡ used (option m) values rows
  option_used [] rows = refl
  option_used (v ∷ vs) rows = refl

  option_fault : (again : Bool) (values : List Text) (rows : List Row) → use_fault again (option n) values rows ≡ use_fault again (option m) values rows
  option_fault again [] rows = refl
  option_fault again (v ∷ vs) rows =
      ap (λ (ks : Kinds). or_else (range_kinds 1 1 (length (v ∷ vs))) (or_else (repeat_fault again (codes "engine") rows) ks)) (values_fault (v ∷ vs))

  engine : Alike (option n) (option m)
  engine = record { id = refl; most = refl; used = option_used; fault = option_fault }

  -- ---- the options of `analyse`

  abbrev others : List Rule
  others = filled workers_rule ∷ filled order_rule ∷ filled pairs_rule ∷ filled drop_zeros_rule ∷ filled report_rule ∷ filled least_rule ∷ []

  analyse_default : (rows : List Row) → defaults_fault rows (option n ∷ others) ≡ defaults_fault rows (option m ∷ others)
  unfolding defaults_fault
  analyse_default rows =
      ap (λ (ks : Kinds). or_else (if has_row (codes "engine") rows || false then [] else ks) (defaults_fault (with_default rows (option m)) others))
      (values_fault (default_engine ∷ []))

  analyse : AlikeRules (option n ∷ others) (option m ∷ others)
  analyse = record {
    by_id = λ id. first_of_both Alike (λ a. bytes_eq a.id id) (λ a. bytes_eq a.id id) (option n ∷ others) (option m ∷ others)
        (engine, refl, (itself _, refl, (itself _, refl, (itself _, refl, (itself _, refl, (itself _, refl, (itself _, refl, tt)))))));
    by_long = λ name. first_of_both Alike (λ a. not (is_some a.index) && has_long a name) (λ a. not (is_some a.index) && has_long a name)
        (option n ∷ others) (option m ∷ others) (engine, refl, (itself _, refl, (itself _, refl, (itself _, refl, (itself _, refl, (itself _, refl, (itself _, refl, tt)))))));
    no_short_c = λ x. refl;
    no_short_d = λ x. refl;
    no_place_c = λ i. refl;
    no_place_d = λ i. refl;
    ended = λ rows. refl;
    defaults = analyse_default;
    wanted = λ rows. refl;
  }

  -- ---- the options of `load`

  abbrev size : Rule
  size = filled size_rule

  abbrev seed : Rule
  seed = filled seed_rule

  abbrev numbers : List Rule
  numbers = size ∷ seed ∷ []

  abbrev last : List Rule
  last = filled workers_rule ∷ []

  load_default : (rows : List Row) → defaults_fault rows (numbers ++ option n ∷ last) ≡ defaults_fault rows (numbers ++ option m ∷ last)
  unfolding defaults_fault
  load_default rows =
      let sized : List Row = with_default rows size in
      let seeded : List Row = with_default sized seed in
      ap (λ (ks : Kinds). or_else (default_fault rows size) (or_else (default_fault sized seed) (or_else (if has_row (codes "engine") seeded || false then [] else ks) (defaults_fault (with_default seeded (option m)) last))))
      (values_fault (default_engine ∷ []))

  load : AlikeRules (numbers ++ option n ∷ last) (numbers ++ option m ∷ last)
  load = record {
    by_id = λ id. first_of_both Alike (λ a. bytes_eq a.id id) (λ a. bytes_eq a.id id) (numbers ++ option n ∷ last) (numbers ++ option m ∷ last)
        (itself _, refl, (itself _, refl, (engine, refl, (itself _, refl, tt))));
    by_long = λ name. first_of_both Alike (λ a. not (is_some a.index) && has_long a name) (λ a. not (is_some a.index) && has_long a name)
        (numbers ++ option n ∷ last) (numbers ++ option m ∷ last) (itself _, refl, (itself _, refl, (engine, refl, (itself _, refl, tt))));
    no_short_c = λ x. refl;
    no_short_d = λ x. refl;
    no_place_c = λ i. refl;
    no_place_d = λ i. refl;
    ended = λ rows. refl;
    defaults = load_default;
    wanted = λ rows. refl;
  }

  -- ---- the command line

  abbrev subs : Names → List Shape
  subs names = (built (btf_over names)).subs

  commands : (name : Text) → Both AlikeShapes (find (λ s. answers_to name (label_of s)) (subs n)) (find (λ s. answers_to name (label_of s)) (subs m))
  commands name =
      first_of_both AlikeShapes (λ s. answers_to name (label_of s)) (λ s. answers_to name (label_of s)) (subs n) (subs m) (
        itself_shape _,
        refl,
        (
          over_rules (unwrap_or (slice_get (subs m) 1) rank_command) (option n ∷ others) (option m ∷ others) analyse,
          refl,
          (
            itself_shape _,
            refl,
            (
              itself_shape _,
              refl,
              (over_rules (unwrap_or (slice_get (subs m) 4) rank_command) (numbers ++ option n ∷ last) (numbers ++ option m ∷ last) load, refl, (itself_shape _, refl, (itself_shape _, refl, tt))),
            ),
          ),
        ),
      )

  same_entered : (stop : Option (Text × List Text)) → entered (built (btf_over n)) stop ≡ entered (built (btf_over m)) stop
  same_entered None = refl
  same_entered (Some p) = rows_found _ _ (commands p.0) p.1

  same_below : (stop : Option (Text × List Text)) → entered_fault (built (btf_over n)) stop ≡ entered_fault (built (btf_over m)) stop
  same_below None = refl
  same_below (Some p) = fault_found _ _ (commands p.0) p.1

  pub reads_alike : (words : List Text) → (fault_of (btf_over n) words ≡ fault_of (btf_over m) words) × (subcommand_of (btf_over n) words ≡ subcommand_of (btf_over m) words)
  reads_alike words =
      let a : App = built (btf_over m) in
      let stop : Option (Text × List Text) = stop_after a.top.rules (names_of a) words in (
        ap₂ (λ (has : Bool) (below : Kinds). level_fault a.top (names_of a) nothing_held words has below) (ap is_some (same_entered stop)) (same_below stop),
        same_entered stop,
      )

pub read_alike : (names : Names) (words : List Text) → texts_of names ≡ engine_names → ReadsAlike names words
read_alike names words texts = reads_alike names _ texts words
