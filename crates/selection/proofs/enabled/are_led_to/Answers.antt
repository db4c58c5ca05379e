use Rattle.selection.proofs.enabled.are_led_to.Goals as goal

pub returns : goal.returns
returns c = (
  λ e t h. (c.in_ok-places.ensures t).0 (c.are_among.ensures.0 e t h),
  λ h. c.are_among.ensures.1 (λ t m. (c.in_ok-places.ensures t).1 (h t m)),
)
