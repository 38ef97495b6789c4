-- What a command is that options were added to.
use Rattle.std.proofs.Common.{◌≡◌, Bool, false, ◌||◌, List, [], ◌∷◌, ◌++◌, map, append_assoc, append-nil, ap, refl, sym, subst, ◌∙◌}
use Rattle.clap.specs.Built.{AddsArg, AddsInTurn}
use Rattle.clap.specs.Words.{App, Rule, Shape, app_of, rule_of}
use Rattle.clap.specs.declared.builder.arg.Arg.{Arg}
use Rattle.clap.specs.declared.builder.command.Command.{Command}
use Rattle.btf_words.specs.Table.{AreLocal}

abbrev pub with_rules : Shape → List Rule → Shape
with_rules s rules = record s { rules = s.rules ++ rules }

neither : (a b c : Bool) → c ≡ (a || b) → a ≡ false → b ≡ false → c ≡ false
neither a b c is e f = rw (is, e, f) refl

-- a command with options of its own alone has none for the commands below it
pub no_globals : (P : Command → Bool) → ((old : Command) (a : Arg) (new : Command) → AddsArg old a new → P new ≡ (P old || a.global))
    → (options : List Arg) (old new : Command) → AreLocal options → AddsInTurn AddsArg old options new → P old ≡ false → P new ≡ false
no_globals P adds [] old new local same e = subst (λ (c : Command). P c ≡ false) same e
no_globals P adds (a ∷ more) old new local (m, step, rest) e =
    no_globals P adds more m new local.1 rest (neither _ _ _ (adds old a m step) e local.0)

-- it has their rules behind those that it had
pub rules_joined : (options : List Arg) (old new : Command) → AreLocal options → AddsInTurn AddsArg old options new
    → (app_of new).top ≡ with_rules (app_of old).top (map rule_of options)
rules_joined [] old new local same =
    let none : (app_of old).top.rules ≡ (app_of old).top.rules ++ [] = sym (append-nil (app_of old).top.rules) in
    subst (λ (c : Command). (app_of c).top ≡ with_rules (app_of old).top []) same
    (ap (λ (rules : List Rule). record (app_of old).top { rules = rules }) none)
rules_joined (a ∷ more) old new local (m, step, rest) =
    let rules : List Rule = (app_of old).top.rules in
    rules_joined more m new local.1 rest
    ∙ ap (λ (b : App). with_rules b.top (map rule_of more)) (step.shape local.0)
    ∙ ap (λ (all : List Rule). record (app_of old).top { rules = all }) (append_assoc rules (rule_of a ∷ []) (map rule_of more))
