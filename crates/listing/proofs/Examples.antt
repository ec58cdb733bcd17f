-- Lines of 01's listing, computed.
use mathlib.Core.Path.{◌≡◌, refl}
use mathlib.Core.List.{[], ◌∷◌}
use Rattle.listing.specs.Text.{digits, decimal, field, stop_text, stops_text, route_line, refused_line, bytes}

five : decimal 60048 ≡ bytes "60048"
unfolding digits
five = refl

last_line : route_line (0 ∷ 3 ∷ []) ≡ bytes "route 0 3\n"
unfolding digits stop_text stops_text route_line
last_line = refl

no-sheet : refused_line 5 ≡ bytes "refused 5\n"
unfolding digits field refused_line
no-sheet = refl
