-- What a call on permutations leaves, by its status.
use Rattle.std.specs.Prelude.{◌≡◌, ◌≢◌, ℤ, pos}
use Rattle.bip_defs.specs.Matrix.{Matrix}
use Rattle.blocktri.specs.Compressed.{CompressedLists, HasMatrix}
use Rattle.blocktri.specs.Dmperm.{DmpermLists, HaveDmpermRoom, TellsDmperm}
use Rattle.blocktri.specs.declared.sizes.Sizes.{Sizes}
use Rattle.blocktri.specs.declared.sizes.Wants.{Wants}
use Rattle.blocktri_c.specs.FormSizes.{AreFormSizes}
use Rattle.blocktri_c.specs.declared.form_sizes.FormSizes.{FormSizes}

-- the permutations with the sizes, as C is told them
pub record TellsDmpermSizes (a : Matrix) (wants : Wants) (z : FormSizes) (old new : DmpermLists)
    : Type 0 where
  pub sizes : Sizes
  pub permutations : TellsDmperm a wants sizes old new
  pub sizes_are : AreFormSizes sizes z

-- at status 0 the answer stands in the lists and in the sizes; at any other all is as it was
pub record AnswersDmperm (status : ℤ) (l : CompressedLists) (wants : Wants) (old new : DmpermLists)
    (old_sizes new_sizes : FormSizes) : Type 0 where
  pub found : status ≡ pos 0 → HasMatrix l (λ a. TellsDmpermSizes a wants new_sizes old new)
  pub fit : status ≡ pos 0 → HaveDmpermRoom l old
  pub kept : status ≢ pos 0 → (new ≡ old) × (new_sizes ≡ old_sizes)
