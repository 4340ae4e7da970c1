use Rattle.std.proofs.Common.{length-take-le, sym}
use Rattle.notation.proofs.Facts.Tests.{tests, via}
use borrow.Author.Tests.{not-false}
use Rattle.tape.specs.Fits.{tape_fits}
use Rattle.tape.proofs.Facts.Fits.{shape_len, fits_cells}
use Rattle.tape.proofs.Tape.fits.Goals as goal

pub returns-then-not-shape_fits : goal.returns-then-not-shape_fits
unfolding tape_fits
returns-then-not-shape_fits c = search (tests, via)

pub slice_bounds-all_below-end : goal.slice_bounds-all_below-end
slice_bounds-all_below-end c = sym (length-take-le _ _ (search shape_len))

pub returns : goal.returns
returns c = fits_cells _ _ _ _ _ c.shape_fits.ensures (search not-false) c.all_below.ensures
