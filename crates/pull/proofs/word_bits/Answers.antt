-- `pull::word_bits` meets its contract: by the word's sign. Assumes nothing.
use Rattle.pull.proofs.Words.{word_fits, word_wide, sum_fits, sum_cast, negative_bits, positive_cast, positive_bits}
use Rattle.pull.specs.Pull.{word}
use Rattle.pull.proofs.word_bits.Goals as goal

pub overflow_cast-result : goal.overflow_cast-result
overflow_cast-result c = word_wide (word_fits c.args.clip.now c.args.n c.w-1.given)

pub overflow_add-result : goal.overflow_add-result
overflow_add-result c = sum_fits (word_fits c.args.clip.now c.args.n c.w-1.given) c.if-w-lt0.true

pub overflow_cast-result-then-w-lt0-2 : goal.overflow_cast-result-then-w-lt0-2
overflow_cast-result-then-w-lt0-2 c = sum_cast (word_fits c.args.clip.now c.args.n c.w-1.given) c.if-w-lt0.true

pub overflow_cast-result-else-w-lt0 : goal.overflow_cast-result-else-w-lt0
overflow_cast-result-else-w-lt0 c = positive_cast (word_fits c.args.clip.now c.args.n c.w-1.given) c.if-w-lt0.false

pub returns-then-w-lt0 : goal.returns-then-w-lt0
unfolding word
returns-then-w-lt0 c =
    let all = negative_bits (word_fits c.args.clip.now c.args.n c.w-1.given) c.if-w-lt0.true in
    record { value = all.0; upper_bound = all.1.0; result_value = all.1.1 }

pub returns-else-w-lt0 : goal.returns-else-w-lt0
unfolding word
returns-else-w-lt0 c =
    let all = positive_bits (word_fits c.args.clip.now c.args.n c.w-1.given) c.if-w-lt0.false in
    record { value = all.0; upper_bound = all.1.0; result_value = all.1.1 }
