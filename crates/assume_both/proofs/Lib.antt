mod Jointly
