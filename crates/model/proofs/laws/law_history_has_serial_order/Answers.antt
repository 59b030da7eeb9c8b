use Rattle.model.proofs.laws.law_history_has_serial_order.Goals as goal
use Rattle.model.proofs.SerialOrders.{places_rise, places_keep_time, replay_law, orders_keep_time}

pub returns : goal.returns
returns c = record { dependencies = places_rise; real_time = places_keep_time; replay = replay_law; ahead = orders_keep_time }
