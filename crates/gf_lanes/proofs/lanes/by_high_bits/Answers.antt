use Rattle.std.proofs.Common.{◌≡◌, ℕ, ◌/◌, ◌^◌, ◌<◌, List, length, get_or, arith, w8, Fits}
use Rattle.std.proofs.lemmas.Simd.{Each1-get_or}
use Rattle.std.specs.Simd.Lanes.{Each1}
use Rattle.gf_lanes.proofs.LaneLemmas.{lanes_splat, may_look_up, looked_up}
use Rattle.gf_lanes.proofs.lanes.by_high_bits.Goals as goal

small : (v : List ℕ) → length v ≡ 32 → Each1 (Fits w8) v → (k : ℕ) → k < 32 → get_or v k 0 / 2 ^ 4 < 16
small v long fits k l = omega (arith, (Each1-get_or (Fits w8) v k 0 (omega arith) fits).fits)

pub swizzle : goal.swizzle
swizzle c = may_look_up _ (λ k. get_or c.args.v k 0 / 2 ^ 4) (lanes_splat (λ a b. a / 2 ^ b) c.args.v 4 c.fits-v.0) (small c.args.v c.fits-v.0 c.fits-v.1)

pub returns : goal.returns
returns c = looked_up _ (λ k. get_or c.args.v k 0 / 2 ^ 4) c.args.table (lanes_splat (λ a b. a / 2 ^ b) c.args.v 4 c.fits-v.0) (small c.args.v c.fits-v.0 c.fits-v.1) c.requires
