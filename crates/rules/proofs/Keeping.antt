-- From factors that are kept, frames are booked as the rules book them, and the factors stay kept: by induction over the frames. Assumes nothing.
use Rattle.std.specs.Prelude.{◌≡◌, List, [], ◌∷◌}
use mathlib.Core.Path.{refl, ap, ◌∙◌}
use lib.Ieee.{of_bits, lt}
use Rattle.ladder.specs.declared.types.Table.{Table}
use Rattle.ladder.specs.Types.{rung_count}
use Rattle.account.specs.declared.types.Account.{Account}
use Rattle.rules.specs.declared.types.Frame.{Frame}
use Rattle.rules.specs.Booking.{book_frame, book}
use Rattle.rules.specs.bridges.Pass.{Fades, Kept, no_fades, turned, turned_all}
use Rattle.rules.specs.bridges.Ageing.{booked_all}
use Rattle.rules.proofs.Fade.{turned_fading, turned_kept}
use Rattle.rules.proofs.Ageing.{books_by}

-- before the first frame none are kept
pub none_kept : (t : Table) → Kept t no_fades
unfolding of_bits lt
none_kept t h = absurd h

pub books_kept : (t : Table) (d : Fades) (fs : List Frame) (l : List Account) → Kept t d → booked_all t d fs l ≡ book t fs l
unfolding booked_all book
books_kept t d [] l k = refl
books_kept t d (f ∷ fs) l k =
    let e = turned t f.air d in
    let right = turned_fading t f.air d k in
    ap (booked_all t e fs) (books_by t f e l right) ∙ books_kept t e fs (book_frame (rung_count t) 0 t f l) (turned_kept t f.air d k)

pub still_kept : (t : Table) (d : Fades) (fs : List Frame) → Kept t d → Kept t (turned_all t d fs)
still_kept t d [] k = k
still_kept t d (f ∷ fs) k = still_kept t (turned t f.air d) fs (turned_kept t f.air d k)
