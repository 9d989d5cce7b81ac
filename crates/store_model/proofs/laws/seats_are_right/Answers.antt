use Rattle.store_model.proofs.Seats.{seats_are, each_has_a_seat, same_seat}
use Rattle.store_model.proofs.laws.seats_are_right.Goals as goal

pub returns : goal.returns
returns c = (seats_are, each_has_a_seat, λ ps qs s t once same. same_seat ps qs once same s t)
