-- What the calls leave, by their statuses.
use Rattle.std.proofs.Common.{◌≡◌, ◌≢◌, ℕ, ℤ, pos, refl}
use Rattle.blocktri.specs.Causes.{IsRefusal}
use Rattle.blocktri.specs.Compressed.{CompressedLists, HasMatrix}
use Rattle.blocktri.specs.Dmperm.{DmpermLists, HaveDmpermRoom, TellsDmperm}
use Rattle.blocktri.specs.Forms.{FormLists, HaveFormRoom, TellsForm}
use Rattle.blocktri.specs.declared.refusals.Refusal.{Refusal}
use Rattle.blocktri.specs.declared.sizes.Sizes.{Sizes}
use Rattle.blocktri.specs.declared.sizes.Wants.{Wants}
use Rattle.blocktri_c.specs.DmpermStatuses.{AnswersDmperm}
use Rattle.blocktri_c.specs.FormSizes.{AreFormSizes}
use Rattle.blocktri_c.specs.FormStatuses.{AnswersForm}
use Rattle.blocktri_c.specs.Statuses.{TellsFault, fault_of, status_of}
use Rattle.blocktri_c.specs.declared.form_sizes.FormSizes.{FormSizes}

-- a refusal that has its cause
pub fault_told : (Fit : Type 0) (l : CompressedLists) (refusal : Refusal) (status : ℤ) (old new : ℕ) → status ≡ status_of refusal → status ≢ pos 0 → new ≡ fault_of refusal old → IsRefusal Fit l.others l.starts l.ids refusal → TellsFault status Fit l old new
fault_told Fit l refusal status old new is refused at cause = record {
  no_fault = λ ok. absurd (refused ok);
  refused = λ bad. record { refusal = refusal; cause = cause; status_is = is; fault_is = at };
}

-- a form that is found
pub form_answered : (l : CompressedLists) (wants : Wants) (s : Sizes) (z old_sizes : FormSizes) (old new : FormLists) → HasMatrix l (λ a. TellsForm a wants s old new) → HaveFormRoom l old → AreFormSizes s z → AnswersForm (pos 0) l wants old new old_sizes z
form_answered l wants s z old_sizes old new told fit sizes = record {
  found = λ ok. record { compressed = told.compressed; holds = record { sizes = s; form = told.holds; sizes_are = sizes } };
  fit = λ ok. fit;
  kept = λ bad. absurd (bad refl);
}

-- permutations that are found
pub dmperm_answered : (l : CompressedLists) (wants : Wants) (s : Sizes) (z old_sizes : FormSizes) (old new : DmpermLists) → HasMatrix l (λ a. TellsDmperm a wants s old new) → HaveDmpermRoom l old → AreFormSizes s z → AnswersDmperm (pos 0) l wants old new old_sizes z
dmperm_answered l wants s z old_sizes old new told fit sizes = record {
  found = λ ok. record { compressed = told.compressed; holds = record { sizes = s; permutations = told.holds; sizes_are = sizes } };
  fit = λ ok. fit;
  kept = λ bad. absurd (bad refl);
}
