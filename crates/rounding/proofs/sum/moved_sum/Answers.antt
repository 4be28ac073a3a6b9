use Rattle.rounding.proofs.Sums.{product_fits, sum_fits, moved, moved_short}
use Rattle.rounding.proofs.sum.moved_sum.Goals as goal

pub overflow_mul-result : goal.overflow_mul-result
overflow_mul-result c = product_fits c.args.x c.args.y c.power_of_two.result c.args.places c.requires.left c.requires.right c.requires.near c.power_of_two.ensures

pub overflow_add-result : goal.overflow_add-result
overflow_add-result c = sum_fits c.args.x c.args.y c.power_of_two.result c.args.places c.requires.left c.requires.right c.requires.near c.power_of_two.ensures

pub returns : goal.returns
returns c = record {
  value = moved c.args.x c.args.y c.power_of_two.result c.args.places c.requires.left c.requires.right c.requires.near c.power_of_two.ensures;
  short = moved_short c.args.x c.args.y c.power_of_two.result c.args.places c.requires.left c.requires.right c.requires.near c.power_of_two.ensures;
}
