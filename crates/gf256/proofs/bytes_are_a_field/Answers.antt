use Rattle.std.proofs.Common.{arith}
use Rattle.std.specs.Int.Bits.{xor_assoc, xor_self, xor_zero_r}
use Rattle.std.proofs.lemmas.Nat.{xor_comm}
use Rattle.gf256.proofs.Laws.{product_comm, product_assoc, product_sum_r, product_one_r, product_byte, product_inverse}
use Rattle.gf256.proofs.Powers.{inverse_only, inverse_byte}
use Rattle.gf256.proofs.Ring.{xor_byte}
use Rattle.gf256.proofs.bytes_are_a_field.Goals as goal

pub returns : goal.returns
returns c = record {
  sums = record { byte = xor_byte; order = xor_comm; groups = xor_assoc; zero = xor_zero_r; negative = xor_self };
  products = record { byte = product_byte; order = product_comm; groups = product_assoc; sums = product_sum_r; one = product_one_r };
  inverses = record {
    byte = inverse_byte;
    one = λ a some byte. product_inverse a (omega arith) byte;
    only = λ a b some byte other. inverse_only a b some byte other (inverse_byte a);
  };
}
