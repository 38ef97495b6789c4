use Rattle.std.proofs.Common.{◌≡◌, arith, length, refl}
use Rattle.report_reader.specs.ComponentArrays.{height, width}
use Rattle.report_reader.proofs.ComponentArrays.{all_same}
use Rattle.report_reader.proofs.listed_components.ComponentList.have_sizes_of.Goals as goal

pub returns : goal.returns
returns c =
    let long : length c.args.self.now ≡ length c.args.components.now = omega arith in (
      λ t. (
        all_same height c.args.self.now c.args.components.now long (λ k lt. c.loop-at.invariant.heights k (omega arith)),
        all_same width c.args.self.now c.args.components.now long (λ k lt. c.loop-at.invariant.widths k (omega arith)),
      ),
      λ e. refl,
    )
