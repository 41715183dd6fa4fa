-- Worked examples of numerals, computed by the checker.
use Rattle.std.specs.Prelude.{◌≡◌, pos, negsuc, Ok, Err, codes, refl}
use Rattle.obj_source.specs.declared.numbers.NumberWhy.TheVariants.{Bad, Range}
use Rattle.obj_source.specs.Numerals.{coordinate_of, numeral_of, exponent_of, scaled}

pub coordinate_of-greatest : coordinate_of 1024 (codes "1024.0004") ≡ Ok (pos 1048576)
unfolding coordinate_of numeral_of exponent_of scaled
coordinate_of-greatest = refl

pub coordinate_of-past : coordinate_of 1024 (codes "1024.0005") ≡ Err Range
unfolding coordinate_of numeral_of exponent_of scaled
coordinate_of-past = refl

pub coordinate_of-half_below_0 : coordinate_of 1000 (codes "-0.0005") ≡ Ok (pos 0)
unfolding coordinate_of numeral_of exponent_of scaled
coordinate_of-half_below_0 = refl

pub coordinate_of-half : coordinate_of 1000 (codes "+.0005") ≡ Ok (pos 1)
unfolding coordinate_of numeral_of exponent_of scaled
coordinate_of-half = refl

pub coordinate_of-tiny : coordinate_of 1000 (codes "1.5e-20") ≡ Ok (pos 0)
unfolding coordinate_of numeral_of exponent_of scaled
coordinate_of-tiny = refl

pub coordinate_of-no_exponent : coordinate_of 1000 (codes "1e") ≡ Err Bad
unfolding coordinate_of numeral_of exponent_of scaled
coordinate_of-no_exponent = refl

pub coordinate_of-19_digits : coordinate_of 1 (codes "1000000000000000000e-18") ≡ Err Bad
unfolding coordinate_of numeral_of exponent_of scaled
coordinate_of-19_digits = refl

pub coordinate_of-zero : coordinate_of 1 (codes "0e9999") ≡ Ok (pos 0)
unfolding coordinate_of numeral_of exponent_of scaled
coordinate_of-zero = refl

pub coordinate_of-19th_behind : coordinate_of 1 (codes "0.4999999999999999999") ≡ Ok (pos 0)
unfolding coordinate_of numeral_of exponent_of scaled
coordinate_of-19th_behind = refl

pub coordinate_of-least : coordinate_of 1024 (codes "-1024.0004") ≡ Ok (negsuc 1048575)
unfolding coordinate_of numeral_of exponent_of scaled
coordinate_of-least = refl

pub coordinate_of-past_least : coordinate_of 1024 (codes "-1024.0005") ≡ Err Range
unfolding coordinate_of numeral_of exponent_of scaled
coordinate_of-past_least = refl

pub coordinate_of-half_past_least : coordinate_of 1 (codes "-1048576.5") ≡ Ok (negsuc 1048575)
unfolding coordinate_of numeral_of exponent_of scaled
coordinate_of-half_past_least = refl

pub coordinate_of-half_past_greatest : coordinate_of 1 (codes "1048576.5") ≡ Err Range
unfolding coordinate_of numeral_of exponent_of scaled
coordinate_of-half_past_greatest = refl

pub coordinate_of-upper_case_e : coordinate_of 1000 (codes "25E-1") ≡ Ok (pos 2500)
unfolding coordinate_of numeral_of exponent_of scaled
coordinate_of-upper_case_e = refl

pub coordinate_of-plus : coordinate_of 1000 (codes "+25") ≡ Ok (pos 25000)
unfolding coordinate_of numeral_of exponent_of scaled
coordinate_of-plus = refl

pub coordinate_of-point_first : coordinate_of 1000 (codes ".5") ≡ Ok (pos 500)
unfolding coordinate_of numeral_of exponent_of scaled
coordinate_of-point_first = refl

pub coordinate_of-point_last : coordinate_of 1000 (codes "1.") ≡ Ok (pos 1000)
unfolding coordinate_of numeral_of exponent_of scaled
coordinate_of-point_last = refl

pub coordinate_of-point_alone : coordinate_of 1000 (codes ".") ≡ Err Bad
unfolding coordinate_of numeral_of exponent_of scaled
coordinate_of-point_alone = refl

pub coordinate_of-no_word : coordinate_of 1000 (codes "") ≡ Err Bad
unfolding coordinate_of numeral_of exponent_of scaled
coordinate_of-no_word = refl

pub coordinate_of-two_points : coordinate_of 1000 (codes "1.2.3") ≡ Err Bad
unfolding coordinate_of numeral_of exponent_of scaled
coordinate_of-two_points = refl

pub coordinate_of-sign_alone : coordinate_of 1000 (codes "-") ≡ Err Bad
unfolding coordinate_of numeral_of exponent_of scaled
coordinate_of-sign_alone = refl

pub coordinate_of-two_signs : coordinate_of 1000 (codes "+-1") ≡ Err Bad
unfolding coordinate_of numeral_of exponent_of scaled
coordinate_of-two_signs = refl

pub coordinate_of-exponent_alone : coordinate_of 1000 (codes "e5") ≡ Err Bad
unfolding coordinate_of numeral_of exponent_of scaled
coordinate_of-exponent_alone = refl

pub coordinate_of-point_behind_exponent : coordinate_of 1000 (codes "1e1.0") ≡ Err Bad
unfolding coordinate_of numeral_of exponent_of scaled
coordinate_of-point_behind_exponent = refl

pub coordinate_of-plus_in_exponent : coordinate_of 1 (codes "1e+5") ≡ Ok (pos 100000)
unfolding coordinate_of numeral_of exponent_of scaled
coordinate_of-plus_in_exponent = refl

pub coordinate_of-minus_in_exponent : coordinate_of 1000 (codes "-5e-4") ≡ Ok (pos 0)
unfolding coordinate_of numeral_of exponent_of scaled
coordinate_of-minus_in_exponent = refl

pub coordinate_of-five_exponent_digits : coordinate_of 1 (codes "1e00001") ≡ Err Bad
unfolding coordinate_of numeral_of exponent_of scaled
coordinate_of-five_exponent_digits = refl

pub coordinate_of-four_exponent_digits : coordinate_of 1 (codes "1e0001") ≡ Ok (pos 10)
unfolding coordinate_of numeral_of exponent_of scaled
coordinate_of-four_exponent_digits = refl

pub coordinate_of-18_behind : coordinate_of 1 (codes "0.500000000000000000") ≡ Ok (pos 1)
unfolding coordinate_of numeral_of exponent_of scaled
coordinate_of-18_behind = refl

pub coordinate_of-19th_behind_rounds_down : coordinate_of 1 (codes "-0.5000000000000000001") ≡ Ok (pos 0)
unfolding coordinate_of numeral_of exponent_of scaled
coordinate_of-19th_behind_rounds_down = refl

pub coordinate_of-balanced : coordinate_of 1 (codes "0.0000000000000000000000000000001e31") ≡ Ok (pos 1)
unfolding coordinate_of numeral_of exponent_of scaled
coordinate_of-balanced = refl

pub coordinate_of-unbalanced : coordinate_of 1 (codes "100000000000000000e-17") ≡ Ok (pos 1)
unfolding coordinate_of numeral_of exponent_of scaled
coordinate_of-unbalanced = refl

pub coordinate_of-far_out : coordinate_of 1 (codes "1e9999") ≡ Err Range
unfolding coordinate_of numeral_of exponent_of scaled
coordinate_of-far_out = refl

pub coordinate_of-far_in : coordinate_of 1 (codes "1e-9999") ≡ Ok (pos 0)
unfolding coordinate_of numeral_of exponent_of scaled
coordinate_of-far_in = refl

pub coordinate_of-leading_zeros : coordinate_of 1000 (codes "00000000000000000000000001.5") ≡ Ok (pos 1500)
unfolding coordinate_of numeral_of exponent_of scaled
coordinate_of-leading_zeros = refl

pub coordinate_of-zeros_before_point : coordinate_of 1 (codes "000000000000000000001e5") ≡ Ok (pos 100000)
unfolding coordinate_of numeral_of exponent_of scaled
coordinate_of-zeros_before_point = refl

pub coordinate_of-not_a_number : coordinate_of 1000 (codes "nan") ≡ Err Bad
unfolding coordinate_of numeral_of exponent_of scaled
coordinate_of-not_a_number = refl

pub coordinate_of-hexadecimal : coordinate_of 1000 (codes "0x10") ≡ Err Bad
unfolding coordinate_of numeral_of exponent_of scaled
coordinate_of-hexadecimal = refl
