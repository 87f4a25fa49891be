-- a codeword is the transform of its coefficients
use Rattle.std.proofs.Common.{◌∙◌}
use Rattle.level_codeword.proofs.Held.{held-codeword}
use Rattle.level_codeword.proofs.codeword_held.Goals as goal

pub returns : goal.returns
returns c =
    let a = c.args in
    c.transformed.ensures ∙ held-codeword a.r a.m c.requires.1 a.bits c.requires.2 c.coefficients.result c.coefficients.ensures
