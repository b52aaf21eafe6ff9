use Rattle.px_words.proofs.Numbers.{difference_is_exact, difference_test, product_is_exact, product_test, signed_difference_is_exact, signed_difference_test, signed_product_is_exact, signed_product_test, signed_sum_is_exact, signed_sum_test, sum_is_exact, sum_test}
use Rattle.px_words.proofs.law.arithmetic_is_exact.Goals as goal

pub returns-clause-sum : goal.returns-clause-sum
returns-clause-sum c = sum_is_exact

pub returns-clause-difference : goal.returns-clause-difference
returns-clause-difference c = difference_is_exact

pub returns-clause-product : goal.returns-clause-product
returns-clause-product c = product_is_exact

pub returns-clause-signed_sum : goal.returns-clause-signed_sum
returns-clause-signed_sum c = signed_sum_is_exact

pub returns-clause-signed_difference : goal.returns-clause-signed_difference
returns-clause-signed_difference c = signed_difference_is_exact

pub returns-clause-signed_product : goal.returns-clause-signed_product
returns-clause-signed_product c = signed_product_is_exact

pub returns-clause-sum_test : goal.returns-clause-sum_test
returns-clause-sum_test c = sum_test

pub returns-clause-difference_test : goal.returns-clause-difference_test
returns-clause-difference_test c = difference_test

pub returns-clause-product_test : goal.returns-clause-product_test
returns-clause-product_test c = product_test

pub returns-clause-signed_sum_test : goal.returns-clause-signed_sum_test
returns-clause-signed_sum_test c = signed_sum_test

pub returns-clause-signed_difference_test : goal.returns-clause-signed_difference_test
returns-clause-signed_difference_test c = signed_difference_test

pub returns-clause-signed_product_test : goal.returns-clause-signed_product_test
returns-clause-signed_product_test c = signed_product_test
