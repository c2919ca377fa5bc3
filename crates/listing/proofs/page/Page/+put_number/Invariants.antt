-- The measure of `Page::put_number` is the number. Assumes nothing.
use Rattle.listing.proofs.page.Page.+put_number.Given as goal

abbrev pub decreases-put_number : goal.decreases-put_number
decreases-put_number l = l.n
