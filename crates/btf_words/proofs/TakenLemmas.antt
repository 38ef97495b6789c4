-- Words that are taken name a job.
use Rattle.std.proofs.Common.{◌≡◌, Bool, true, false, List, [], ◌∷◌, Option, Some, None, ap, refl, sym, ◌∙◌, subst, inl, inr}
use Rattle.std.specs.Prelude.{is_some, find, cond, ⊤, MatchOption, option_and_then, option_map}
use Rattle.std.specs.List.{AllByRecursion}
use Rattle.std.proofs.lemmas.Option.{none-some}
use Rattle.clap.specs.Words.{App, Row, Shape, Text, built, fault_of, subcommand_of}
use Rattle.clap.specs.Walk.{Held, answers_to, finished, nothing_held, settled, stop_after, walk, walk_from}
use Rattle.clap.specs.Walk.{Names as Labels}
use Rattle.clap.specs.Simple.{entered, label_of, names_of, rows_at}
use Rattle.clap.specs.Kinds.{Kinds, or_else}
use Rattle.clap.specs.Faults.{check_fault, defaults_fault, entered_fault, level_fault, settle_fault, walk_fault}
use Rattle.clap.specs.Words.{HasKind, HasMatchesOf, is_simple, is_simple_and_free, kind_of, subcommand_rows_of}
use Rattle.clap.specs.declared.error.Error.{Error}
use Rattle.clap.specs.declared.error.kind.ErrorKind.TheVariants as kind
use Rattle.clap.specs.declared.parser.matches.ArgMatches.{ArgMatches}
use Rattle.btf_words.specs.Table.{IsBtf, btf}
use Rattle.btf_words.proofs.EngineNames.{read_alike}
use Rattle.btf_words.specs.Words.{AreTaken, job_from, job_of}
use Rattle.btf_words.specs.declared.jobs.Job.{Job}

later_empty : (a b : Kinds) → or_else a b ≡ [] → b ≡ []
later_empty [] b h = h
later_empty (k ∷ ks) b h = cc

-- a level that finds no fault finds none at its end
none_at_end : (s : Shape) (names : Labels) (h : Held) (words : List Text) (has : Bool) (below : Kinds)
    → level_fault s names h words has below ≡ []
    → check_fault s (finished s.rules (walk s.rules names h words).held) has ≡ []
none_at_end s names h words has below e =
    let last : Held = (walk s.rules names h words).held in
    let walked : Kinds = walk_fault s names (walk_from h) words in
    let settling : Kinds = settle_fault s.rules s.args_override_self last in
    let defaults : Kinds = defaults_fault (settled s.rules last).rows s.rules in
    let checked : Kinds = check_fault s (finished s.rules last) has in
    later_empty defaults checked (later_empty settling (or_else defaults checked)
    (later_empty below (or_else settling (or_else defaults checked))
    (later_empty walked (or_else below (or_else settling (or_else defaults checked))) e)))

-- the command line finds no fault at its end only where the words entered a command
command_there : (rows : List Row) (has : Bool) → check_fault (built btf).top rows has ≡ [] → has ≡ true
command_there rows true h = refl
command_there rows false h = cc

-- what holds of each of them holds of the first that passes
found : {X : Type 0} (P : X → Type 0) (p : X → Bool) (xs : List X) → AllByRecursion P xs → MatchOption (find p xs) ⊤ P
found P p [] all = tt
found P p (x ∷ xs) all = by (p x) (found P p xs all.1)
  where
    by : (b : Bool) → MatchOption (find p xs) ⊤ P → MatchOption (cond b (Some x) (find p xs)) ⊤ P
    by true rest = all.0
    by false rest = rest

mapped : {X Y : Type 0} (P : Y → Type 0) (f : X → Y) (o : Option X) → MatchOption o ⊤ (λ x. P (f x)) → MatchOption (option_map f o) ⊤ P
mapped P f None h = tt
mapped P f (Some x) h = h

abbrev HasJob : Text × List Row → Type 0
HasJob m = is_some (job_from m) ≡ true

-- each command has a job
has_job : (stop : Option (Text × List Text)) → MatchOption (entered (built btf) stop) ⊤ HasJob
has_job None = tt
has_job (Some p) =
    mapped HasJob (λ (s : Shape). rows_at s p.1) _
    (found (λ (s : Shape). HasJob (rows_at s p.1)) (λ (s : Shape). answers_to p.0 (label_of s)) (built btf).subs
    (refl, (refl, (refl, (refl, (refl, (refl, (refl, tt))))))))

some_job : (o : Option (Text × List Row)) → is_some o ≡ true → MatchOption o ⊤ HasJob → is_some (option_and_then job_from o) ≡ true
some_job None there has = cc
some_job (Some m) there has = has

-- words with which clap finds no fault name a job
taken_has_job : (words : List Text) → fault_of btf words ≡ [] → is_some (option_and_then job_from (subcommand_of btf words)) ≡ true
taken_has_job words none =
    let a : App = built btf in
    let stop : Option (Text × List Text) = stop_after a.top.rules (names_of a) words in
    let checked = none_at_end a.top (names_of a) nothing_held words (is_some (entered a stop)) (entered_fault a stop) none in
    let rows : List Row = finished a.top.rules (walk a.top.rules (names_of a) nothing_held words).held in
    some_job (entered a stop) (command_there rows (is_some (entered a stop)) checked) (has_job stop)

the_job : (o : Option Job) → is_some o ≡ true → (job : Job) × (o ≡ Some job)
the_job None there = cc
the_job (Some job) there = (job, refl)

pub taken_names : (words : List Text) → AreTaken words → (job : Job) × (job_of words ≡ Some job)
unfolding AreTaken job_of
taken_names words taken = the_job (option_and_then job_from (subcommand_of btf words)) (taken_has_job words taken)

-- ---- the answers of a parse

-- clap's definitions over the command line, wherever its names lie
line_fault : (app : App) (words : List Text) → IsBtf app → fault_of app words ≡ fault_of btf words
line_fault app words line = ap (λ (a : App). fault_of a words) line.2 ∙ (read_alike line.0 words line.1).0

line_command : (app : App) (words : List Text) → IsBtf app → subcommand_of app words ≡ subcommand_of btf words
line_command app words line = ap (λ (a : App). subcommand_of a words) line.2 ∙ (read_alike line.0 words line.1).1

line_is_free : (app : App) → IsBtf app → is_simple_and_free app ≡ true
line_is_free app line = ap is_simple_and_free line.2

-- words with which clap finds no fault are taken
pub are_taken : (app : App) (words : List Text) → IsBtf app → (is_simple_and_free app ≡ true → fault_of app words ≡ []) → AreTaken words
unfolding AreTaken
are_taken app words line no_fault = sym (line_fault app words line) ∙ no_fault (line_is_free app line)

-- the job of the command that they entered is theirs
pub is_job : (app : App) (words : List Text) (m : ArgMatches) (o : Option Job) → IsBtf app → HasMatchesOf app words m
    → o ≡ option_and_then job_from (subcommand_rows_of m) → o ≡ job_of words
unfolding job_of
is_job app words m o line matches is =
    is ∙ ap (option_and_then job_from) ((matches (ap is_simple line.2)).1 ∙ line_command app words line)

-- words that are taken have one
pub has_one : (words : List Text) (o : Option Job) → AreTaken words → o ≡ job_of words → o ≡ None → ⊥
has_one words o taken is none = let named = taken_names words taken in none-some named.0 (sym none ∙ is ∙ named.1)

-- words that clap refuses for another cause than memory are not taken
pub refused : (app : App) (words : List Text) (e : Error) → IsBtf app
    → (is_simple_and_free app ≡ true → HasKind (fault_of app words) e) → (kind_of e ≡ kind.OutOfMemory → ⊥) → AreTaken words → ⊥
unfolding AreTaken
refused app words e line kinds other taken =
    elim (subst (λ (ks : Kinds). HasKind ks e) (line_fault app words line ∙ taken) (kinds (line_is_free app line))) [ inl h ↦ other h | inr h ↦ absurd h ]
