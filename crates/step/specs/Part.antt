-- The code's parts of a broadcast beside the definition's, which also count the phases.
use Rattle.broadcast.specs.Broadcast as broadcast
use Rattle.step.specs.declared.Part.{Part}
use Rattle.step.specs.declared.Part.TheVariants.{Sender, First, Second, King}

abbrev pub as_part : broadcast.Part → Part
as_part broadcast.from_sender = Sender
as_part (broadcast.first_of p) = First
as_part (broadcast.second_of p) = Second
as_part (broadcast.from_king p) = King p

-- the other way: in an exchange nothing goes by which phase it is
abbrev pub of_part : Part → broadcast.Part
of_part Sender = broadcast.from_sender
of_part First = broadcast.first_of 0
of_part Second = broadcast.second_of 0
of_part (King p) = broadcast.from_king p
