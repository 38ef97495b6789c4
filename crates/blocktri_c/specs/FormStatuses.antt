-- What a call on the block triangular form leaves, by its status.
use Rattle.std.specs.Prelude.{◌≡◌, ◌≢◌, ℤ, Bool, pos}
use Rattle.bip_defs.specs.Matrix.{Matrix}
use Rattle.blocktri.specs.Compressed.{CompressedLists, HasMatrix}
use Rattle.blocktri.specs.Forms.{FormLists, HaveFormRoom, TellsForm}
use Rattle.blocktri.specs.declared.sizes.Sizes.{Sizes}
use Rattle.blocktri.specs.declared.sizes.Wants.{Wants}
use Rattle.blocktri_c.specs.FormSizes.{AreFormSizes}
use Rattle.blocktri_c.specs.declared.form_sizes.FormSizes.{FormSizes}

abbrev pub wants_of : Bool → Bool → Wants
wants_of blocks components = record { blocks = blocks; components = components }

-- the form with its sizes, as C is told them
pub record TellsFormSizes (a : Matrix) (wants : Wants) (z : FormSizes) (old new : FormLists)
    : Type 0 where
  pub sizes : Sizes
  pub form : TellsForm a wants sizes old new
  pub sizes_are : AreFormSizes sizes z

-- at status 0 the answer stands in the lists and in the sizes; at any other all is as it was
pub record AnswersForm (status : ℤ) (l : CompressedLists) (wants : Wants) (old new : FormLists)
    (old_sizes new_sizes : FormSizes) : Type 0 where
  pub found : status ≡ pos 0 → HasMatrix l (λ a. TellsFormSizes a wants new_sizes old new)
  pub fit : status ≡ pos 0 → HaveFormRoom l old
  pub kept : status ≢ pos 0 → (new ≡ old) × (new_sizes ≡ old_sizes)
