use Rattle.general_decs.proofs.finish.close_led.Goals as goal

pub list_led-requires : goal.list_led-requires
list_led-requires c = c.in_ok-list.ensures.list c.in-Some.list c.in-Some.is
