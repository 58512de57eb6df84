-- SPDX-License-Identifier: MIT OR Apache-2.0
-- The definitions that are unfolded to read literal octets.
use Rattle.octets.specs.Front.{octet_at, counted_at}
use Rattle.octets.specs.Walk.{walk}
use Rattle.bssmap_codec.specs.BssapReading.{elements_of as bssap_elements_of, breaks_off as bssap_breaks_off, needed_value, needed_octet, rr_cause_in, layer3_at, cause_at, assignment_request_at, assignment_complete_at, assignment_failure_at, handover_performed_at, reject_at, complete_layer3_at, message_at as bssap_message_at, management_at, transfer_at, bssap_reading}
use Rattle.bssmap_codec.specs.BssmapType.{bssmap_type}
use Rattle.bssmap_codec.specs.Reference.{reference_at, references_at}
use Rattle.bssmap_codec.specs.SccpReading.{part_at, option_at, data_in, user_data_at, request_at, fixed_references_at, refused_at, data_behind_at, data_form_at, sccp_reading}
use Rattle.bssmap_codec.specs.SccpType.{sccp_type}
use Rattle.dtap_codec.specs.RrReading.{three_at, handover_command_at, assignment_command_at, cause_at as rr_cause_at, immediate_assignment_at, measurement_report_at, typed_at, pseudo_at, rr_reading}
use Rattle.dtap_codec.specs.RrType.{rr_type}
use Rattle.rsl_codec.specs.RslReading.{elements_of, breaks_off, channel_only_at, link_at, data_at, error_at, establishment_at, release_at, channel_required_at, assignment_at, activation_at, activation_ack_at, failure_at, detection_at, measurement_result_at, message_at, rsl_reading}
use Rattle.rsl_codec.specs.RslType.{rsl_type}
use Rattle.run_judge.specs.Reading.{activation_elements}
use Rattle.judge_orders.specs.Steps.{after, after_hole, beginnings, begun_apart, ended_by, gives_again, waits_on}

unfoldable pub on_literals : Unit {0}
unfolding octet_at counted_at walk bssap_elements_of bssap_breaks_off needed_value needed_octet rr_cause_in layer3_at cause_at assignment_request_at assignment_complete_at assignment_failure_at handover_performed_at reject_at complete_layer3_at bssap_message_at management_at transfer_at bssap_reading bssmap_type reference_at references_at part_at option_at data_in user_data_at request_at fixed_references_at refused_at data_behind_at data_form_at sccp_reading sccp_type three_at handover_command_at assignment_command_at rr_cause_at immediate_assignment_at measurement_report_at typed_at pseudo_at rr_reading rr_type elements_of breaks_off channel_only_at link_at data_at error_at establishment_at release_at channel_required_at assignment_at activation_at activation_ack_at failure_at detection_at measurement_result_at message_at rsl_reading rsl_type activation_elements after after_hole beginnings begun_apart ended_by gives_again waits_on
on_literals = tt
